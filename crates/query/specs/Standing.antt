-- What stands at a place of a query, on the paper's lists, and how the code's enums are read as the same: the words of the decoder's contract.
-- Assumes nothing.
use Rattle.std.specs.Prelude.{ℕ, ◌+◌, ◌≡◌, cond, List, [], ◌∷◌, ltb, length, drop, Option, Some, None, Result, Ok, Err}
use Rattle.std.proofs.Math.Option as Math
use Rattle.paper.specs.Fields.{Kind, Item, parts, cut, length_at, item_at}
use Rattle.paper.specs.Reasons.{number_of}
use Rattle.paper.specs.declared.Reason.{Reason}
use Rattle.paper.specs.declared.Refusal.{Refusal}
use Rattle.query.specs.declared.Kind as Code
use Rattle.query.specs.declared.Field.{Field}
use Rattle.query.specs.declared.Field.TheVariants.{FreeBase, FreeBoolean, Variable, Write, Conditional, Read, Equality, Fixed}

-- What stands at a place of the bytes: their end, a refusal, or a field with its parts' numbers and the next place
pub data Standing : Type 0 where
  end : Standing
  broken : (at refusal : ℕ) → Standing
  field : Kind → List ℕ → (next : ℕ) → Standing

abbrev pub of_item : Item → (next : ℕ) → Standing
of_item (Item.broken at refusal) next = broken at refusal
of_item (Item.field at kind numbers) next = field kind numbers next

-- "The fields are taken one after another": what the paper finds at a place, and where the next field begins
unfoldable pub standing : (w : ℕ) → List ℕ → (at : ℕ) → Standing
standing w bytes at =
    cond (ltb at (length bytes)) (of_item (item_at w at (drop at bytes)) (at + (3 + length_at (drop at bytes)))) end

-- The code's enums, read in the paper's words
abbrev pub paper_kind : Code.Kind → Kind
paper_kind Code.TheVariants.FreeBase = Kind.free_base
paper_kind Code.TheVariants.FreeBoolean = Kind.free_boolean
paper_kind Code.TheVariants.Variable = Kind.variable
paper_kind Code.TheVariants.Write = Kind.write
paper_kind Code.TheVariants.Conditional = Kind.conditional
paper_kind Code.TheVariants.Read = Kind.read
paper_kind Code.TheVariants.Equality = Kind.equality
paper_kind Code.TheVariants.Fixed = Kind.fixed

abbrev pub found_kind : Option Code.Kind → Math.Option Kind
found_kind None = Math.none
found_kind (Some kind) = Math.some (paper_kind kind)

-- 0 says that no test refuses
abbrev pub refusal_of : Result Code.Kind Reason → ℕ
refusal_of (Ok kind) = 0
refusal_of (Err reason) = number_of reason

abbrev pub kind_of_field : Field → Kind
kind_of_field (FreeBase value) = Kind.free_base
kind_of_field (FreeBoolean truth) = Kind.free_boolean
kind_of_field Variable = Kind.variable
kind_of_field (Write p) = Kind.write
kind_of_field (Conditional p) = Kind.conditional
kind_of_field (Read p) = Kind.read
kind_of_field (Equality p) = Kind.equality
kind_of_field (Fixed value) = Kind.fixed

abbrev pub numbers_of : Field → List ℕ
numbers_of (FreeBase value) = value ∷ []
numbers_of (FreeBoolean truth) = truth ∷ []
numbers_of Variable = []
numbers_of (Write p) = p.beneath ∷ p.index ∷ p.value ∷ []
numbers_of (Conditional p) = p.chooser ∷ p.if_true ∷ p.if_false ∷ []
numbers_of (Read p) = p.from ∷ p.index ∷ p.value ∷ []
numbers_of (Equality p) = p.left ∷ p.right ∷ p.truth ∷ p.left_witness ∷ p.right_witness ∷ []
numbers_of (Fixed value) = value ∷ []

abbrev pub standing_of : Result (Option (Field × ℕ)) Refusal → Standing
standing_of (Ok None) = end
standing_of (Ok (Some (f, next))) = field (kind_of_field f) (numbers_of f) next
standing_of (Err refusal) = broken refusal.offset (number_of refusal.reason)

-- A field of a kind, with the numbers that the bytes of its value hold
pub record Carries (w : ℕ) (kind : Code.Kind) (bytes : List ℕ) (f : Field) : Type 0 where
  pub same_kind : kind_of_field f ≡ paper_kind kind
  pub numbers : numbers_of f ≡ cut w (parts (paper_kind kind)) bytes
