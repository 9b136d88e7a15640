-- Laws of a run that is written piece by piece: what is left to write says what the whole will be. The loops' invariants are stated by them.
-- Assumes nothing.
use Prim.Native.Nat.{ℕ, suc, ◌+◌, ◌-◌, ◌<◌, ◌≤◌}
use native.Mathlib.Nat.{add-zero, zero-add}
use native.Mathlib.Numerals.{add-one}
use native.Mathlib.Omega.{arith}
use mathlib.Core.Path.{◌≡◌, refl, sym, ap, ◌∙◌}
use mathlib.Core.List.{List, [], ◌∷◌, ◌++◌}
use lib.IntN.{ℤ}
use lib.ListN.{length, drop, set, length-append}
use lib.Seq.{sets, sets-eq}
use Rattle.paper.specs.Lists.{range}
use Rattle.paper.specs.Answers.{written_over}
use Rattle.cnf.specs.declared.numbers.Run.{Run}
use Rattle.cnf.specs.Parts.{Put, Room, Wrote}

-- a run that is stored in two parts
sets_append : (first second run : List ℤ) (at : ℕ) → sets run at (first ++ second) ≡ sets (sets run at first) (at + length first) second
sets_append [] second run at = rw add-zero
sets_append (x ∷ first) second run at =
    sets_append first second (set run at x) (suc at) ∙ ap (λ (k : ℕ). sets (sets (set run at x) (suc at) first) k second) (omega arith)

-- To store `rest` in the run as it is now is to store `all` in the run as it was
pub record Left (before : Run) (all : List ℤ) (now : Run) (rest : List ℤ) : Type 0 where
  pub same : sets now.numbers.now now.at rest ≡ sets before.numbers.now before.at all
  pub next : now.at + length rest ≡ before.at + length all
  pub long : length now.numbers.now ≡ length before.numbers.now
  pub same_run : now.numbers.ghost_name ≡ before.numbers.ghost_name

-- nothing is written yet
pub begun : (run : Run) (all : List ℤ) → Left run all run all
begun run all = record { same = refl; next = refl; long = refl; same_run = refl }

-- a piece is written
pub further : {before : Run} {all : List ℤ} {run after : Run} (piece : List ℤ) {rest : List ℤ}
    → Left before all run (piece ++ rest) → Wrote run after piece → Left before all after rest
further {before} {all} {run} {after} piece {rest} left wrote =
    record {
      same = rw (wrote.put.stored, wrote.put.passed) (sym (sets_append piece rest run.numbers.now run.at) ∙ left.same);
      next = omega (arith, wrote.put.passed, left.next, length-append piece rest);
      long = wrote.same_length ∙ left.long;
      same_run = wrote.same_run ∙ left.same_run;
    }

-- all is written
pub done : {before : Run} {all : List ℤ} {run : Run} → Left before all run [] → Wrote before run all
done left = record { put = record { stored = left.same; passed = omega (arith, left.next) }; same_run = left.same_run; same_length = left.long }

-- the numbers from k to n, one at a time
pub range_step : (k n : ℕ) → k < n → range k (n - k) ≡ k ∷ range (k + 1) (n - (k + 1))
range_step k n h =
    let more : n - k ≡ suc (n - (k + 1)) = omega arith in
    rw (more, add-one)

-- nothing to write is written
pub nothing : (run : List ℤ) (at : ℕ) → Put run run at at []
nothing run at = record { stored = refl; passed = omega arith }

-- one number stored is a run of one
one : (run : List ℤ) (at : ℕ) {x y : ℤ} → x ≡ y → Put run (set run at x) at (at + 1) (y ∷ [])
one run at same = rw same (record { stored = refl; passed = refl })

-- the same piece, said otherwise
pub put_as : {before after : List ℤ} {at next : ℕ} {piece other : List ℤ} → piece ≡ other → Put before after at next piece → Put before after at next other
put_as same put = rw (← same) put

-- the same run, said otherwise
pub put_in : {before other after : List ℤ} {at next : ℕ} {piece : List ℤ} → before ≡ other → Put before after at next piece → Put other after at next piece
put_in same put = rw (← same) put

-- the same piece, or rest, said otherwise
pub wrote_as : {before after : Run} {piece other : List ℤ} → piece ≡ other → Wrote before after piece → Wrote before after other
wrote_as same wrote = rw (← same) wrote

pub left_as : {before : Run} {all : List ℤ} {run : Run} {rest other : List ℤ} → rest ≡ other → Left before all run rest → Left before all run other
left_as same left = rw (← same) left

-- there is room for the first piece of what is left
pub room_for : {before : Run} {all : List ℤ} {run : Run} (piece rest : List ℤ) → Left before all run (piece ++ rest) → Room before all → Room run piece
room_for piece rest left fits = omega (arith, left.next, left.long, length-append piece rest)

-- a run that is written from the start
pub from_start : (before after all : List ℤ) (next : ℕ) → Put before after 0 next all → length all ≤ length before → (after ≡ written_over before all) × (next ≡ length all)
from_start before after all next put fits =
    (put.stored ∙ sets-eq all before 0 (omega arith) ∙ ap (λ (n : ℕ). all ++ drop n before) (zero-add (length all)), put.passed ∙ zero-add (length all))
