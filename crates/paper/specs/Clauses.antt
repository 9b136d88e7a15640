-- 01, The clauses. Variables are named first and numbered last; each literal brings its fresh variables, its clauses, and what it puts
-- into the linking clause.
-- Assumes nothing.
use Rattle.std.specs.Prelude.{ℕ, zero, suc, ◌+◌, ◌*◌, ◌^◌, Bool, cond, not, List, [], ◌∷◌, ◌++◌, map, eqb, ℤ, pos, negsuc, neg_ℤ}
use Rattle.paper.specs.Lists.{any, concat_map, range, sum}
use Rattle.paper.specs.Terms.{Assignment}
use Rattle.paper.specs.Lemma.{Literal}

pub data Variable : Type 0 where
  bit : (b k : ℕ) → Variable
  boolean : (m : ℕ) → Variable
  fresh : (n : ℕ) → Variable

pub data Signed : Type 0 where
  plus minus : Variable → Signed

abbrev pub Clause : Type 0
Clause = List Signed

-- What one literal brings, with its first fresh variable n. The rank orders the linking clause: Booleans, then d, then e
pub record Gadget : Type 0 where
  pub freshes : ℕ
  pub clauses : List Clause
  pub rank : ℕ
  pub link : List Signed

-- "For 'equal i j', each bit: (i, j, not d), (not i, not j, not d)"
abbrev pub differing : (i j n k : ℕ) → List Clause
differing i j n k =
    (plus (bit i k) ∷ plus (bit j k) ∷ minus (fresh (n + k)) ∷ [])
    ∷ (minus (bit i k) ∷ minus (bit j k) ∷ minus (fresh (n + k)) ∷ [])
    ∷ []

-- "For each e with its two terms v w, each bit: (not v, w, not e), (v, not w, not e)"
abbrev pub agreeing : (v u n k : ℕ) → List Clause
agreeing v u n k =
    (minus (bit v k) ∷ plus (bit u k) ∷ minus (fresh n) ∷ [])
    ∷ (plus (bit v k) ∷ minus (bit u k) ∷ minus (fresh n) ∷ [])
    ∷ []

abbrev pub some_differs : (w i j n : ℕ) → Gadget
some_differs w i j n =
    record {
      freshes = w;
      clauses = concat_map (differing i j n) (range 0 w);
      rank = 1;
      link = map (λ k. plus (fresh (n + k))) (range 0 w);
    }

abbrev pub all_agree : (w v u n : ℕ) → Gadget
all_agree w v u n = record { freshes = 1; clauses = concat_map (agreeing v u n) (range 0 w); rank = 2; link = plus (fresh n) ∷ [] }

-- "each Boolean literal reversed"
abbrev pub reversed : Signed → Gadget
reversed literal = record { freshes = 0; clauses = []; rank = 0; link = literal ∷ [] }

abbrev pub gadget : (w n : ℕ) → Literal → Gadget
gadget w n (Literal.equal i j) = some_differs w i j n
gadget w n (Literal.differ i j) = all_agree w i j n
gadget w n (Literal.is_true m) = reversed (minus (boolean m))
gadget w n (Literal.is_false m) = reversed (plus (boolean m))
gadget w n (Literal.conclusion v u) = all_agree w v u n

-- "fresh ones follow": d, then e, in lemma order
abbrev pub gadgets : (w n : ℕ) → List Literal → List Gadget
gadgets w n [] = []
gadgets w n (l ∷ literals) = gadget w n l ∷ gadgets w (n + (gadget w n l).freshes) literals

abbrev pub links_of : (rank : ℕ) → List Gadget → List Signed
links_of rank all = concat_map (λ one. cond (eqb one.rank rank) one.link []) all

-- "each Boolean literal reversed, in lemma order, then all d, then all e"
abbrev pub linking : List Gadget → Clause
linking all = links_of 0 all ++ links_of 1 all ++ links_of 2 all

unfoldable pub named_clauses : (w : ℕ) → List Literal → List Clause
named_clauses w literals =
    let all = gadgets w 0 literals in
    concat_map (λ one. one.clauses) all ++ (linking all ∷ [])

unfoldable pub fresh_count : (w : ℕ) → List Literal → ℕ
fresh_count w literals = sum (map (λ one. one.freshes) (gadgets w 0 literals))

-- "Bit k of base term b (0 lowest) is variable 32b+k+1; Boolean m is 32B+m+1; fresh ones follow"
abbrev pub variable_number : (w bases booleans : ℕ) → Variable → ℕ
variable_number w bases booleans (bit b k) = w * b + k + 1
variable_number w bases booleans (boolean m) = w * bases + m + 1
variable_number w bases booleans (fresh n) = w * bases + booleans + n + 1

abbrev pub signed_number : (w bases booleans : ℕ) → Signed → ℤ
signed_number w bases booleans (plus variable) = pos (variable_number w bases booleans variable)
signed_number w bases booleans (minus variable) = neg_ℤ (pos (variable_number w bases booleans variable))

unfoldable pub clauses_of : (w bases booleans : ℕ) → List Literal → List (List ℤ)
clauses_of w bases booleans literals = map (map (signed_number w bases booleans)) (named_clauses w literals)

-- "a run of signed 32-bit numbers, each clause closed by 0"
abbrev pub run : List (List ℤ) → List ℤ
run clauses = concat_map (λ clause. clause ++ (pos 0 ∷ [])) clauses

-- what clauses say of truths for the variables, by number
abbrev pub number_holds : (ℕ → Bool) → ℤ → Bool
number_holds truth (pos n) = truth n
number_holds truth (negsuc n) = not (truth (suc n))

abbrev pub clause_holds : (ℕ → Bool) → List ℤ → Bool
clause_holds truth clause = any (number_holds truth) clause

-- the number that w bits are, bit 0 the lowest
abbrev pub of_bits : (w : ℕ) → (ℕ → Bool) → ℕ
of_bits zero bits = 0
of_bits (suc k) bits = of_bits k bits + cond (bits k) (2 ^ k) 0

-- "at every assignment of bits to the terms": the values and truths that truths for the variables give
abbrev pub assignment_of : (w bases booleans : ℕ) → (ℕ → Bool) → Assignment
assignment_of w bases booleans truth =
    record {
      value = λ b. of_bits w (λ k. truth (variable_number w bases booleans (bit b k)));
      truth = λ m. truth (variable_number w bases booleans (boolean m));
    }
