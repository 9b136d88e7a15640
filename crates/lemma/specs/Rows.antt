-- The literals (01, The lemma) that a list of the code's says, and their bytes.
-- Assumes nothing.
use Rattle.std.specs.Prelude.{ℕ, List, map}
use Rattle.paper.specs.Lemma.{Literal, tagged, field_bytes}
use Rattle.lemma.specs.declared.rows.Literal.{Literal as Row}
use Rattle.lemma.specs.declared.rows.Literal.TheVariants.{Equal, Differ, IsTrue, IsFalse, Conclusion}

-- the literal of 01
abbrev pub literal_in : Row → Literal
literal_in (Equal i j) = Literal.equal i j
literal_in (Differ i j) = Literal.differ i j
literal_in (IsTrue m) = Literal.is_true m
literal_in (IsFalse m) = Literal.is_false m
literal_in (Conclusion v u) = Literal.conclusion v u

-- the literals that a list says
abbrev pub literals_of : (rows : List Row) → List Literal
literals_of rows = map literal_in rows

-- the bytes of a literal
abbrev pub bytes_in : Row → List ℕ
bytes_in row = field_bytes (tagged (literal_in row))
