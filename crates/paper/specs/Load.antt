-- 01, Refusals by number, 1 to 9: what a string of bytes is accepted as, or refused for.
-- Assumes nothing.
use Rattle.std.specs.Prelude.{ℕ, Bool, false, cond, not, ◌&&◌, List, [], ◌∷◌, ◌++◌, map, eqb, leb, ltb, length}
use Rattle.std.proofs.Math.Option.{Option, none, some}
use Rattle.paper.specs.Lists.{any, or_else, Test, ◌refuses◌, first_met, unless_refused}
use Rattle.paper.specs.Fields.{Series, base, boolean, array, Part, Kind, parts, gives, Item, field, broken, items}
use Rattle.paper.specs.Terms.{Term, term_of, given, Guess, Query, assigned}

-- "At most 48 array terms, 256 base terms, 64 Booleans; at most 4,096 bytes"
abbrev pub limit : Series → ℕ
limit base = 256
limit boolean = 64
limit array = 48

abbrev pub max_bytes : ℕ
max_bytes = 4096

-- what is taken of each part of a field, with the number that it holds
abbrev pub each_part : {A : Type 0} → (Part → ℕ → List A) → List Part → List ℕ → List A
each_part take [] numbers = []
each_part take (part ∷ rest) [] = []
each_part take (part ∷ rest) (x ∷ numbers) = take part x ++ each_part take rest numbers

abbrev pub as_value : Part → ℕ → List ℕ
as_value Part.value x = x ∷ []
as_value Part.truth x = []
as_value (Part.names series) x = []

abbrev pub as_truth : Part → ℕ → List ℕ
as_truth Part.value x = []
as_truth Part.truth x = x ∷ []
as_truth (Part.names series) x = []

-- is the term that a part names not yet given, where so many of each series are?
abbrev pub as_ungiven : (Series → ℕ) → Part → ℕ → List Bool
as_ungiven counts Part.value x = []
as_ungiven counts Part.truth x = []
as_ungiven counts (Part.names series) x = leb (counts series) x ∷ []

-- 5: "one array, base or Boolean term too many"
abbrev pub is_full : (Series → ℕ) → Kind → Bool
is_full counts kind = leb (limit (gives kind)) (counts (gives kind))

-- 6: "a term not yet given is named"
abbrev pub names_ungiven : (Series → ℕ) → Kind → List ℕ → Bool
names_ungiven counts kind numbers = any (λ ungiven. ungiven) (each_part (as_ungiven counts) (parts kind) numbers)

-- the index number of the read that gives base term b, if there is one and it reads array a
abbrev pub read_index : (b a : ℕ) → Term → Option ℕ
read_index b a (Term.free_base own) = none
read_index b a (Term.free_boolean own) = none
read_index b a (Term.variable own) = none
read_index b a (Term.write own beneath index value) = none
read_index b a (Term.conditional own chooser if_true if_false) = none
read_index b a (Term.read own from index) = cond (eqb own b && eqb from a) (some index) none
read_index b a (Term.equality own left right left_witness right_witness) = none
read_index b a (Term.fixed own value) = none

abbrev pub witness_index : List Term → (b a : ℕ) → Option ℕ
witness_index [] b a = none
witness_index (term ∷ terms) b a = or_else (read_index b a term) (witness_index terms b a)

abbrev pub same_index : Option ℕ → Option ℕ → Bool
same_index none j = false
same_index (some i) none = false
same_index (some i) (some j) = eqb i j

-- a test of an equality's sides and witnesses; no other term meets it
abbrev pub of_equality : ((left right left_witness right_witness : ℕ) → Bool) → Term → Bool
of_equality test (Term.free_base own) = false
of_equality test (Term.free_boolean own) = false
of_equality test (Term.variable own) = false
of_equality test (Term.write own beneath index value) = false
of_equality test (Term.conditional own chooser if_true if_false) = false
of_equality test (Term.read own from index) = false
of_equality test (Term.equality own left right left_witness right_witness) = test left right left_witness right_witness
of_equality test (Term.fixed own value) = false

-- 8: "a witness isn't a read, or reads another array, or the two index numbers differ"
abbrev pub bad_witnesses : List Term → (left right left_witness right_witness : ℕ) → Bool
bad_witnesses terms left right left_witness right_witness =
    not (same_index (witness_index terms left_witness left) (witness_index terms right_witness right))

-- 9: "witnesses have equal assigned values"
abbrev pub equal_witnesses : Guess → (left right left_witness right_witness : ℕ) → Bool
equal_witnesses guess left right left_witness right_witness =
    eqb ((assigned guess).value left_witness) ((assigned guess).value right_witness)

-- the term that a field gives after these
abbrev pub next_term : List Term → Kind → List ℕ → Term
next_term terms kind numbers = term_of kind (given (gives kind) terms) numbers

-- "within it: .. 5, 6, 7, 8, 9": the tests of a field against the query before it
unfoldable pub faults : Query → Kind → List ℕ → List Test
faults query kind numbers =
    let terms = query.terms in
    let counts : Series → ℕ = λ series. given series terms in
    let term = next_term terms kind numbers in
    let truths = each_part as_truth (parts kind) numbers in
    (is_full counts kind refuses 5)
    ∷ (names_ungiven counts kind numbers refuses 6)
    ∷ (any (ltb 1) truths refuses 7)
    ∷ (of_equality (bad_witnesses terms) term refuses 8)
    ∷ (any (eqb 0) truths && of_equality (equal_witnesses query.guess) term refuses 9)
    ∷ []

-- the query with one field more
unfoldable pub extend : Query → Kind → List ℕ → Query
extend query kind numbers =
    record {
      terms = query.terms ++ (next_term query.terms kind numbers ∷ []);
      guess =
          record {
            values = query.guess.values ++ each_part as_value (parts kind) numbers;
            truths = query.guess.truths ++ map (eqb 1) (each_part as_truth (parts kind) numbers);
          };
    }

abbrev pub empty : Query
empty = record { terms = []; guess = record { values = []; truths = [] } }

pub data Loaded : Type 0 where
  accepted : Query → Loaded
  refused : (refusal at : ℕ) → Loaded

-- "the first field with a fault decides"
abbrev pub load_items : List Item → Query → Loaded
load_items [] query = accepted query
load_items (broken at refusal ∷ rest) query = refused refusal at
load_items (field at kind numbers ∷ rest) query =
    unless_refused (first_met (faults query kind numbers))
    (λ refusal. refused refusal at)
    (load_items rest (extend query kind numbers))

-- "Number 1 is tried first. Then the first field with a fault decides"
unfoldable pub load : (w : ℕ) → List ℕ → Loaded
load w bytes = cond (ltb max_bytes (length bytes)) (refused 1 0) (load_items (items w bytes) empty)
