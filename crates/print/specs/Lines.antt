-- A line of 01 that the programs share, as bytes: a number of the clauses.
use Rattle.std.specs.Prelude.{ℕ, zero, List, ◌++◌, codes, ℤ, pos}
use Rattle.std.specs.Fmt.{signed_decimal}

-- "a clause per line with its 0": a 0 ends its line, and a blank comes after every other number
abbrev pub entry_text : ℤ → List ℕ
entry_text (pos zero) = codes "0\n"
entry_text n = signed_decimal n ++ codes " "
