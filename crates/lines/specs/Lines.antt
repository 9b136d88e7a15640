-- The line of a literal: "`eq`, `ne`, `true`, `false`, `then`", with the numbers of its terms, "all decimal, one space between".
use Rattle.std.specs.Prelude.{ℕ, List, ◌++◌, codes}
use Rattle.std.specs.Fmt.{decimal}
use Rattle.lines.specs.declared.Literal.{Literal}
use Rattle.lines.specs.declared.Literal.TheVariants.{Equal, Differ, IsTrue, IsFalse, Conclusion}

abbrev pub two_terms : (i j : ℕ) → List ℕ
two_terms i j = decimal i ++ codes " " ++ decimal j

abbrev pub literal_text : Literal → List ℕ
literal_text (Equal i j) = codes "eq " ++ two_terms i j
literal_text (Differ i j) = codes "ne " ++ two_terms i j
literal_text (IsTrue m) = codes "true " ++ decimal m
literal_text (IsFalse m) = codes "false " ++ decimal m
literal_text (Conclusion v u) = codes "then " ++ two_terms v u
