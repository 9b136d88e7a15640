-- What is written of a number other than 0 is its decimal and a blank.
use mathlib.Core.Path.{◌≡◌}
use Rattle.std.specs.Prelude.{codes}
use mathlib.Core.List.{◌++◌}
use mir.Syntax.{w32}
use mir.Val.{to_z, of_z}
use borrow.Author.Rules.{rules}
use Rattle.std.specs.Fmt.{signed_decimal}
use Rattle.print.specs.Lines.{entry_text}
use Rattle.print.proofs.EntryDisplay.fmt.Goals as goal

pub returns-in_default-clause-writes : goal.returns-in_default-clause-writes
returns-in_default-clause-writes c = λ after plain well.
    let n = after.args.self.now.0 in
    let same : entry_text n ≡ signed_decimal (to_z w32 (of_z w32 n)) ++ codes " " = search rules in
    rw same (after.write.ensures.writes plain well)
