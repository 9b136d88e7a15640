-- How many clauses, fresh variables and numbers there are, as they add up literal by literal.
-- Assumes nothing.
use Prim.Native.Nat.{ℕ, ◌+◌, ◌*◌, ◌<◌, ◌≤◌}
use native.Mathlib.Nat.{mul_assoc}
use native.Mathlib.Omega.{arith}
use mathlib.Core.Path.{◌≡◌, refl, ap}
use mathlib.Core.Bool.{Bool, cond}
use mathlib.Core.List.{List, map}
use lib.Dec.{eqb}
use lib.ListN.{length, get_or, drop, length-append, length-map}
use Rattle.std.proofs.lemmas.List.{drop_all}
use Rattle.paper.specs.Lists.{count, sum}
use Rattle.paper.specs.Lemma.{Literal as LemmaLiteral}
use Rattle.paper.specs.Clauses.{Clause, gadget, gadgets, named_clauses, fresh_count, clauses_of, run}
use Rattle.meaning.proofs.Counts.{is_equal, has_e, is_boolean, clauses_count_lem, fresh_count_lem, numbers_count}
use Rattle.lemma.specs.Rows.{literal_in, literals_of}
use Rattle.lemma.specs.declared.rows.Literal.{Literal}
use Rattle.lemma.specs.declared.rows.Literal.TheVariants.{Equal}
use Rattle.cnf.proofs.Whole.{gadget_at, rows_step}
use Rattle.cnf.proofs.Nth.{clauses_from, clauses_all, clauses_step, clauses_end}

-- the fresh variables, and the Boolean literals, of the literals that are left
abbrev fresh_from : (w n : ℕ) → (left : List Literal) → ℕ
fresh_from w n left = sum (map (λ one. one.freshes) (gadgets w n (literals_of left)))

abbrev booleans_from : (left : List Literal) → ℕ
booleans_from left = count is_boolean (literals_of left)

-- What was counted up to row k, with what is counted from it on, is the whole
pub record Tallied (w : ℕ) (rows : List Literal) (clauses freshes booleans k : ℕ) : Type 0 where
  pub all_clauses : clauses + length (clauses_from w rows freshes (drop k rows)) ≡ length (named_clauses w (literals_of rows))
  pub all_freshes : freshes + fresh_from w freshes (drop k rows) ≡ fresh_count w (literals_of rows)
  pub all_booleans : booleans + booleans_from (drop k rows) ≡ count is_boolean (literals_of rows)

pub tally_none : (w : ℕ) (rows : List Literal) → Tallied w rows 0 0 0 0
unfolding fresh_count
tally_none w rows = record { all_clauses = rw (clauses_all w rows) (omega arith); all_freshes = omega arith; all_booleans = omega arith }

-- a Boolean literal is one of rank 0
by_rank : (w n : ℕ) (literal : LemmaLiteral) → eqb (gadget w n literal).rank 0 ≡ is_boolean literal
by_rank w n (LemmaLiteral.equal i j) = refl
by_rank w n (LemmaLiteral.differ i j) = refl
by_rank w n (LemmaLiteral.is_true m) = refl
by_rank w n (LemmaLiteral.is_false m) = refl
by_rank w n (LemmaLiteral.conclusion v u) = refl

pub tally_more : (w : ℕ) (rows : List Literal) (clauses freshes booleans k c f b : ℕ) → k < length rows → Tallied w rows clauses freshes booleans k
    → c ≡ length (gadget_at w (get_or rows k (Equal 0 0)) freshes).clauses → f ≡ (gadget_at w (get_or rows k (Equal 0 0)) freshes).freshes
    → b ≡ cond (eqb (gadget_at w (get_or rows k (Equal 0 0)) freshes).rank 0) 1 0
    → Tallied w rows (clauses + c) (freshes + f) (booleans + b) (k + 1)
tally_more w rows clauses freshes booleans k c f b more tallied own_clauses own_freshes own_boolean =
    let row = get_or rows k (Equal 0 0) in
    rw own_freshes
    (record {
      all_clauses =
          omega (
            arith,
            tallied.all_clauses,
            ap (λ (all : List Clause). length all) (clauses_step w rows freshes k more),
            length-append (gadget_at w row freshes).clauses (clauses_from w rows (freshes + (gadget_at w row freshes).freshes) (drop (k + 1) rows)),
          );
      all_freshes = omega (arith, tallied.all_freshes, ap (λ (left : List Literal). fresh_from w freshes left) (rows_step rows k more));
      all_booleans =
          omega (
            arith,
            tallied.all_booleans,
            ap (λ (left : List Literal). booleans_from left) (rows_step rows k more),
            ap (λ (is : Bool). cond is 1 0 + booleans_from (drop (k + 1) rows)) (by_rank w freshes (literal_in row)),
          );
    })

-- what the whole is, by the paper's counts
module _ (w : ℕ) (rows : List Literal) (clauses freshes booleans k : ℕ) (over : length rows ≤ k) (tallied : Tallied w rows clauses freshes booleans k) where
  clauses_total : (b m : ℕ) → clauses + 1 ≡ length (clauses_of w b m (literals_of rows))
  unfolding clauses_of
  clauses_total b m = simp length-map (omega (arith, tallied.all_clauses, ap (λ (all : List Clause). length all) (clauses_end w rows freshes k over)))

  freshes_total : freshes ≡ fresh_count w (literals_of rows)
  freshes_total = omega (arith, tallied.all_freshes, ap (λ (left : List Literal). fresh_from w freshes left) (drop_all k rows over))

  numbers_total : (b m : ℕ) → 4 * clauses + booleans + freshes + 1 ≡ length (run (clauses_of w b m (literals_of rows)))
  numbers_total b m =
      let compared = count is_equal (literals_of rows) + count has_e (literals_of rows) in
      omega (
        arith,
        numbers_count w b m (literals_of rows),
        clauses_count_lem w b m (literals_of rows),
        clauses_total b m,
        fresh_count_lem w (literals_of rows),
        freshes_total,
        tallied.all_booleans,
        ap (λ (left : List Literal). booleans_from left) (drop_all k rows over),
        mul_assoc 8 w compared,
        mul_assoc 2 w compared,
      )

  pub totals : ((b m : ℕ) → clauses + 1 ≡ length (clauses_of w b m (literals_of rows))) × ((freshes ≡ fresh_count w (literals_of rows)) × ((b m : ℕ) → 4 * clauses + booleans + freshes + 1 ≡ length (run (clauses_of w b m (literals_of rows)))))
  totals = (clauses_total, (freshes_total, numbers_total))
