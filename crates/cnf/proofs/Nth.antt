-- Clause n of all clauses: which literal's it is, and of its clauses which bit's and which side's.
-- Assumes nothing.
use Prim.Native.Nat.{ℕ, zero, suc, ◌+◌, ◌-◌, ◌*◌, ◌/◌, ◌%◌, ◌<◌, ◌≤◌}
use native.Mathlib.Omega.{arith}
use native.Mathlib.Decide.{dec_lt}
use mathlib.Core.Path.{◌≡◌, refl, sym, ap, ◌∙◌}
use mathlib.Core.List.{List, [], ◌∷◌, ◌++◌, map, append_assoc}
use lib.IntN.{ℤ, pos}
use lib.ListN.{length, get_or, drop, length-append, length-map, get_or-append, get_or-map}
use lib.Seq.{get_or-append-add}
use Rattle.std.proofs.lemmas.List.{drop_all}
use Rattle.paper.specs.Lists.{concat_map, range}
use Rattle.paper.specs.Clauses.{Clause, gadget, gadgets, linking, named_clauses, signed_number, clauses_of}
use Rattle.lemma.specs.Rows.{literal_in}
use Rattle.cnf.specs.declared.numbers.Sizes.{Sizes}
use Rattle.lemma.specs.declared.rows.Literal.{Literal}
use Rattle.lemma.specs.declared.rows.Literal.TheVariants.{Equal, Differ, IsTrue, IsFalse, Conclusion}
use Rattle.cnf.specs.Parts.{Compares, closed, clauses_of_bit, linking_of, clause_of}
use Rattle.lemma.specs.Rows.{literals_of}
use Rattle.cnf.proofs.Pieces.{side, by_bits, two_clauses, bits_count}
use Rattle.cnf.proofs.Whole.{gadget_at, rows_step}

-- in two lists, one after the other, an entry past the first stands so much further in the second
in_second : {A : Type 0} (first second : List A) (d : A) (q : ℕ) → length first ≤ q → get_or (first ++ second) q d ≡ get_or second (q - length first) d
in_second {A} first second d q h = ap (λ (m : ℕ). get_or (first ++ second) m d) (omega arith) ∙ get_or-append-add first second (q - length first) d

-- an entry of pairs that are joined
in_pairs : {A : Type 0} (f : ℕ → List A) (d : A) → ((k : ℕ) → length (f k) ≡ 2) → (first n q : ℕ) → q < 2 * n
    → get_or (concat_map f (range first n)) q d ≡ get_or (f (first + q / 2)) (q % 2) d
in_pairs f d pairs first zero q h = absurd (omega arith)
in_pairs {A} f d pairs first (suc n) q h = go (dec_lt q 2) (λ more. in_pairs f d pairs (suc first) n (q - 2) (omega arith))
  where
    go : Dec (q < 2) → (2 ≤ q → get_or (concat_map f (range (suc first) n)) (q - 2) d ≡ get_or (f (suc first + (q - 2) / 2)) ((q - 2) % 2) d)
        → get_or (f first ++ concat_map f (range (suc first) n)) q d ≡ get_or (f (first + q / 2)) (q % 2) d
    go (yes here) further =
        let bit : first ≡ first + q / 2 = omega arith in
        let which : q ≡ q % 2 = omega arith in
        get_or-append (f first) (concat_map f (range (suc first) n)) d q (omega (arith, pairs first)) ∙ ap (λ (k : ℕ). get_or (f k) q d) bit ∙ ap (λ (m : ℕ). get_or (f (first + q / 2)) m d) which
    go (no there) further =
        let bit : suc first + (q - 2) / 2 ≡ first + q / 2 = omega arith in
        let which : (q - 2) % 2 ≡ q % 2 = omega arith in
        let place : q - length (f first) ≡ q - 2 = omega (arith, pairs first) in
        in_second (f first) (concat_map f (range (suc first) n)) d q (omega (arith, pairs first))
        ∙ ap (λ (m : ℕ). get_or (concat_map f (range (suc first) n)) m d) place
        ∙ further (omega arith)
        ∙ ap (λ (k : ℕ). get_or (f k) ((q - 2) % 2) d) bit
        ∙ ap (λ (m : ℕ). get_or (f (first + q / 2)) m d) which

-- a literal that has a clause compares
pub compares_with : (w n : ℕ) (literal : Literal) (q : ℕ) → q < length (gadget w n (literal_in literal)).clauses → Compares literal
compares_with w n (Equal i j) q h = tt
compares_with w n (Differ i j) q h = tt
compares_with w n (IsTrue m) q h = absurd (omega arith)
compares_with w n (IsFalse m) q h = absurd (omega arith)
compares_with w n (Conclusion v u) q h = tt

-- clause q of a literal is of bit q / 2, on side q % 2
pub own_clause : (w n : ℕ) (literal : Literal) (q : ℕ) → q < length (gadget w n (literal_in literal)).clauses
    → (get_or (gadget w n (literal_in literal)).clauses q [] ≡ get_or (clauses_of_bit literal n (q / 2)) (q % 2) []) × (q / 2 < w)
own_clause w n literal q h =
    let compares = compares_with w n literal q h in
    let below : q < 2 * w = omega (arith, bits_count w n literal compares) in
    (ap (λ (all : List Clause). get_or all q []) (by_bits w n literal compares) ∙ in_pairs (clauses_of_bit literal n) [] (two_clauses n literal) 0 w q below ∙ rw zero_plus, omega arith)
  where
    zero_plus : 0 + q / 2 ≡ q / 2
    zero_plus = omega arith

-- the clauses of the literals that are left, the first with fresh variable n, and the linking clause of all
abbrev pub clauses_from : (w : ℕ) → (rows : List Literal) → (n : ℕ) → (left : List Literal) → List Clause
clauses_from w rows n left =
    concat_map (λ one. one.clauses) (gadgets w n (literals_of left)) ++ (linking (gadgets w 0 (literals_of rows)) ∷ [])

pub clauses_all : (w : ℕ) (rows : List Literal) → clauses_from w rows 0 rows ≡ named_clauses w (literals_of rows)
unfolding named_clauses
clauses_all w rows = refl

pub clauses_step : (w : ℕ) (rows : List Literal) (n k : ℕ) → k < length rows
    → clauses_from w rows n (drop k rows)
    ≡ (gadget_at w (get_or rows k (Equal 0 0)) n).clauses ++ clauses_from w rows (n + (gadget_at w (get_or rows k (Equal 0 0)) n).freshes) (drop (k + 1) rows)
clauses_step w rows n k h = rw (rows_step rows k h) (simp append_assoc)

pub clauses_end : (w : ℕ) (rows : List Literal) (n k : ℕ) → length rows ≤ k → clauses_from w rows n (drop k rows) ≡ linking (gadgets w 0 (literals_of rows)) ∷ []
clauses_end w rows n k h = rw (drop_all k rows h)

-- a clause in numbers is the named one's
pub clause_closed : (sizes : Sizes) (rows : List Literal) (n : ℕ) → clause_of sizes.width sizes.bases sizes.booleans rows n ≡ closed sizes (get_or (named_clauses sizes.width (literals_of rows)) n [])
unfolding clauses_of
clause_closed sizes rows n =
    ap (λ (clause : List ℤ). clause ++ (pos 0 ∷ []))
    (get_or-map (map (signed_number sizes.width sizes.bases sizes.booleans)) (named_clauses sizes.width (literals_of rows)) n [])

-- there are as many in numbers
pub clause_there : (w bases booleans : ℕ) (rows : List Literal) (n : ℕ) → n < length (clauses_of w bases booleans (literals_of rows)) → n < length (named_clauses w (literals_of rows))
unfolding clauses_of
clause_there w bases booleans rows n h = simp length-map at h

-- Clause n is clause q of those from row k on, whose first fresh variable is m
pub record Sought (w : ℕ) (rows : List Literal) (n m k q : ℕ) : Type 0 where
  pub within : q < length (clauses_from w rows m (drop k rows))
  pub same : get_or (clauses_from w rows m (drop k rows)) q [] ≡ get_or (named_clauses w (literals_of rows)) n []

pub sought_first : (w : ℕ) (rows : List Literal) (n : ℕ) → n < length (named_clauses w (literals_of rows)) → Sought w rows n 0 0 n
sought_first w rows n h = record { within = rw (clauses_all w rows) h; same = rw (clauses_all w rows) }

module _ (w : ℕ) (rows : List Literal) (n m k q : ℕ) (more : k < length rows) (sought : Sought w rows n m k q) where
  -- the clauses of row k, and those after it
  abbrev here : List Clause
  here = (gadget_at w (get_or rows k (Equal 0 0)) m).clauses

  abbrev after : List Clause
  after = clauses_from w rows (m + (gadget_at w (get_or rows k (Equal 0 0)) m).freshes) (drop (k + 1) rows)

  -- it is none of row k's
  pub sought_later : (own f : ℕ) → own ≡ length here → own ≤ q → f ≡ (gadget_at w (get_or rows k (Equal 0 0)) m).freshes → Sought w rows n (m + f) (k + 1) (q - own)
  sought_later own f clauses past freshes =
      rw (freshes, clauses)
      (record {
        within = omega (arith, sought.within, ap (λ (all : List Clause). length all) (clauses_step w rows m k more), length-append here after);
        same =
            sym (in_second here after [] q (omega arith))
            ∙ ap (λ (all : List Clause). get_or all q []) (sym (clauses_step w rows m k more))
            ∙ sought.same;
      })

  -- it is one of row k's
  pub sought_here : q < length here → get_or (named_clauses w (literals_of rows)) n [] ≡ get_or here q []
  sought_here h =
      sym sought.same
      ∙ ap (λ (all : List Clause). get_or all q []) (clauses_step w rows m k more)
      ∙ get_or-append here after [] q h

-- in numbers: one of row k's literal
pub clause_here : (sizes : Sizes) (rows : List Literal) (n m k q : ℕ) → k < length rows → Sought sizes.width rows n m k q
    → q < length (gadget_at sizes.width (get_or rows k (Equal 0 0)) m).clauses
    → side sizes (get_or rows k (Equal 0 0)) m (q / 2) (q % 2) ≡ clause_of sizes.width sizes.bases sizes.booleans rows n
clause_here sizes rows n m k q more sought own =
    ap (closed sizes) (sym (own_clause sizes.width m (get_or rows k (Equal 0 0)) q own).0 ∙ sym (sought_here sizes.width rows n m k q more sought own))
    ∙ sym (clause_closed sizes rows n)

-- or the linking clause
pub clause_last : (sizes : Sizes) (rows : List Literal) (n m k q : ℕ) → Sought sizes.width rows n m k q → length rows ≤ k
    → clause_of sizes.width sizes.bases sizes.booleans rows n ≡ linking_of sizes rows
clause_last sizes rows n m k q sought over =
    let end = clauses_end sizes.width rows m k over in
    let none : q ≡ 0 = omega (arith, sought.within, ap (λ (all : List Clause). length all) end) in
    clause_closed sizes rows n
    ∙ ap (closed sizes) (sym sought.same ∙ ap (λ (all : List Clause). get_or all q []) end ∙ ap (λ (at : ℕ). get_or (linking (gadgets sizes.width 0 (literals_of rows)) ∷ []) at []) none)
