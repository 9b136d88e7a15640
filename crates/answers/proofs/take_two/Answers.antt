-- Two bytes hold no more than 65,535.
use native.Mathlib.Omega.{arith}
use Rattle.answers.proofs.take_two.Goals as goal

pub returns : goal.returns
returns g c = omega arith
