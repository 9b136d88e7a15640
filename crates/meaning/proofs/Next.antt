-- What a field adds to a query where none of its tests is met: a term that is placed after the terms before it, and a value or a truth
-- where its series has them.
-- Assumes nothing.
use Prim.Native.Nat.{ℕ, zero, suc, ◌*◌, ◌/◌, ◌^◌, ◌<◌}
use native.Mathlib.Nat.{pow-succ', mul-suc, mul-div-le, add_comm}
use native.Mathlib.Omega.{arith}
use mathlib.Core.Path.{◌≡◌, refl, sym, ◌∙◌}
use mathlib.Core.Logic.{◌≢◌}
use mathlib.Core.Bool.{Bool, true, false, cond, not, ◌&&◌, false≢true, or-false}
use mathlib.Core.List.Memᴰ
use mathlib.Core.List.{List, [], ◌∷◌, ◌++◌}
use mathlib.Core.Option.{Option, none, some, none-ne-some}
use lib.Dec.{eqb, ltb}
use lib.ListN.{length, get_or, get_or-append}
use lib.Pow.{pow_mono, pow-add}
use lib.Seq.{get_or_at}
use borrow.Author.Tests.{eqb-true, eqb-false, leb-false, ltb-false, not-false}
use Rattle.paper.specs.Lists.{◌∈◌, any, or_else}
use Rattle.paper.specs.Fields.{base, boolean, Part, Kind, parts, gives}
use Rattle.paper.specs.Terms.{Term, term_of, series, given, Query, assigned}
use Rattle.paper.specs.Load.{each_part, as_value, as_truth, as_ungiven, read_index, witness_index, same_index, bad_witnesses, equal_witnesses, next_term, extend}
use Rattle.meaning.proofs.Lists.{and_left, and_right}
use Rattle.meaning.proofs.Tests.{Faultless}
use Rattle.meaning.proofs.Built.{Shaped, no_part, one_part}
use Rattle.meaning.proofs.Placed.{Witnessed, Placed}

-- a field's term is of the field's series, and there is one value for a base term and one truth for a Boolean
pub next_counts : {w : ℕ} (kind : Kind) (own : ℕ) {numbers : List ℕ} → Shaped w (parts kind) numbers
    → (series (term_of kind own numbers) ≡ gives kind)
    × (length (each_part as_value (parts kind) numbers) ≡ given base (term_of kind own numbers ∷ []))
    × (length (each_part as_truth (parts kind) numbers) ≡ given boolean (term_of kind own numbers ∷ []))
unfolding given
next_counts Kind.free_base own (one_part a no_part) = (refl, refl, refl)
next_counts Kind.free_boolean own (one_part a no_part) = (refl, refl, refl)
next_counts Kind.variable own no_part = (refl, refl, refl)
next_counts Kind.write own (one_part a (one_part b (one_part c no_part))) = (refl, refl, refl)
next_counts Kind.conditional own (one_part a (one_part b (one_part c no_part))) = (refl, refl, refl)
next_counts Kind.read own (one_part a (one_part b (one_part c no_part))) = (refl, refl, refl)
next_counts Kind.equality own (one_part a (one_part b (one_part c (one_part d (one_part e no_part))))) = (refl, refl, refl)
next_counts Kind.fixed own (one_part a no_part) = (refl, refl, refl)

-- k bytes are 8 * k bits
byte_power : (k : ℕ) → 256 ^ k ≡ 2 ^ (8 * k)
byte_power zero = refl
byte_power (suc k) = rw (pow-succ', mul-suc, add_comm, pow-add, byte_power k)

-- a value has w / 8 bytes, and so is below 2 ^ w
pub next_small : {w : ℕ} {rest : List Part} {numbers : List ℕ} {x : ℕ} → Shaped w rest numbers → x ∈ each_part as_value rest numbers → x < 2 ^ w
next_small no_part here = absurd (Memᴰ.not-nil here)
next_small {w} (one_part {part = Part.value} small further) (Memᴰ.head same) =
    let fits = pow_mono (mul-div-le w 8) in
    omega (arith, byte_power (w / 8))
next_small (one_part {part = Part.value} small further) (Memᴰ.tail here) = next_small further here
next_small (one_part {part = Part.truth} small further) here = next_small further here
next_small (one_part {part = Part.names s} small further) here = next_small further here

-- no Boolean of a list is true
abbrev AllFalse : List Bool → Type 0
AllFalse [] = Unit {0}
AllFalse (b ∷ bs) = (b ≡ false) × AllFalse bs

-- what it says that none passes
all_false : (bs : List Bool) → any (λ b. b) bs ≡ false → AllFalse bs
all_false [] e = tt
all_false (true ∷ bs) e = absurd (false≢true (sym e))
all_false (false ∷ bs) e = (refl, all_false bs e)

-- a term that gives a witness's index is that read
read_is : (b a i : ℕ) (term : Term) → read_index b a term ≡ some i → Term.read b a i ≡ term
read_is b a i (Term.free_base own) e = absurd (none-ne-some i e)
read_is b a i (Term.free_boolean own) e = absurd (none-ne-some i e)
read_is b a i (Term.variable own) e = absurd (none-ne-some i e)
read_is b a i (Term.write own beneath index value) e = absurd (none-ne-some i e)
read_is b a i (Term.conditional own chooser if_true if_false) e = absurd (none-ne-some i e)
read_is b a i (Term.read own from index) e = go (eqb own b && eqb from a) refl e
  where
    go : (t : Bool) → (eqb own b && eqb from a) ≡ t → cond t (some index) none ≡ some i → Term.read b a i ≡ Term.read own from index
    go true both found = cc (eqb-true own b (and_left (eqb own b) (eqb from a) both), eqb-true from a (and_right (eqb own b) (eqb from a) both))
    go false both found = absurd (none-ne-some i found)
read_is b a i (Term.equality own left right left_witness right_witness) e = absurd (none-ne-some i e)
read_is b a i (Term.fixed own value) e = absurd (none-ne-some i e)

-- a witness whose index is found is a read of the terms
witness_in : (terms : List Term) (b a i : ℕ) → witness_index terms b a ≡ some i → Term.read b a i ∈ terms
witness_in [] b a i e = absurd (none-ne-some i e)
witness_in (term ∷ terms) b a i e = go (read_index b a term) refl e (witness_in terms b a i)
  where
    go : (found : Option ℕ) → read_index b a term ≡ found → or_else found (witness_index terms b a) ≡ some i → (witness_index terms b a ≡ some i → Term.read b a i ∈ terms) → Term.read b a i ∈ term ∷ terms
    go none here further below = Memᴰ.tail (below further)
    go (some j) here further below = Memᴰ.head (read_is b a i term (here ∙ further))

-- two witnesses whose indices agree have one index
same_index_lem : (p q : Option ℕ) → not (same_index p q) ≡ false → (i : ℕ) × (p ≡ some i) × (q ≡ some i)
same_index_lem none q e = absurd (false≢true (sym e))
same_index_lem (some i) none e = absurd (false≢true (sym e))
same_index_lem (some i) (some j) e = (i, refl, cc (eqb-true i j (not-false (eqb i j) e)))

-- an equality's witnesses that are not bad are two reads at one index
witnesses_in : (terms : List Term) (left right left_witness right_witness : ℕ) → bad_witnesses terms left right left_witness right_witness ≡ false
    → (i : ℕ) × (Term.read left_witness left i ∈ terms) × (Term.read right_witness right i ∈ terms)
witnesses_in terms left right left_witness right_witness e =
    let (i, on_left, on_right) = same_index_lem (witness_index terms left_witness left) (witness_index terms right_witness right) e in
    (i, witness_in terms left_witness left i on_left, witness_in terms right_witness right i on_right)

-- a truth byte that is neither above 1 nor 1 is 0, for which the witnesses are tested
witness_tested : (t : ℕ) (equal : Bool) → any (ltb 1) (t ∷ []) ≡ false → eqb 1 t ≡ false → (any (eqb 0) (t ∷ []) && equal) ≡ false → equal ≡ false
witness_tested zero equal small unset e = e
witness_tested (suc zero) equal small unset e = absurd (false≢true (sym unset))
witness_tested (suc (suc t)) equal small unset e = let low = ltb-false 1 (suc (suc t)) (rw or-false at small) in absurd (omega arith)

module _ (query : Query) (values : length query.guess.values ≡ given base query.terms) (truths : length query.guess.truths ≡ given boolean query.terms) where
  -- an equality whose tests are not met is witnessed
  next_witnessed : (left right t left_witness right_witness : ℕ)
      → Faultless query Kind.equality (left ∷ right ∷ t ∷ left_witness ∷ right_witness ∷ []) → left_witness < given base query.terms → right_witness < given base query.terms
      → Witnessed query.terms (assigned (extend query Kind.equality (left ∷ right ∷ t ∷ left_witness ∷ right_witness ∷ [])).guess) (Term.equality (given boolean query.terms) left right left_witness right_witness)
  unfolding extend
  next_witnessed left right t left_witness right_witness faultless on_left on_right =
      let (i, left_read, right_read) = witnesses_in query.terms left right left_witness right_witness faultless.witnesses in
      (i, left_read, right_read, differ)
    where
      kept : (b : ℕ) → b < given base query.terms → get_or (query.guess.values ++ []) b 0 ≡ get_or query.guess.values b 0
      kept b h = get_or-append query.guess.values [] 0 b (rw values h)

      differ : get_or (query.guess.truths ++ (eqb 1 t ∷ [])) (given boolean query.terms) false ≡ false → get_or (query.guess.values ++ []) left_witness 0 ≢ get_or (query.guess.values ++ []) right_witness 0
      differ e same =
          let unset = sym (get_or_at query.guess.truths (eqb 1 t) [] false (given boolean query.terms) truths) ∙ e in
          eqb-false (get_or query.guess.values left_witness 0) (get_or query.guess.values right_witness 0)
          (witness_tested t (equal_witnesses query.guess left right left_witness right_witness) faultless.bits unset faultless.differing)
          (sym (kept left_witness on_left) ∙ same ∙ kept right_witness on_right)

  -- the guess has a fixed number's value
  next_fixed : (x : ℕ) → (assigned (extend query Kind.fixed (x ∷ [])).guess).value (given base query.terms) ≡ x
  unfolding extend
  next_fixed x = get_or_at query.guess.values x [] 0 (given base query.terms) values

  -- the term of a field whose tests are not met is placed after the terms before it
  pub next_placed : {w : ℕ} (kind : Kind) {numbers : List ℕ} → Shaped w (parts kind) numbers → Faultless query kind numbers → Placed query.terms (assigned (extend query kind numbers).guess) (next_term query.terms kind numbers)
  next_placed kind {numbers} shaped faultless = go kind shaped faultless (all_false (each_part (as_ungiven (λ s. given s query.terms)) (parts kind) numbers) faultless.named)
    where
      go : {w : ℕ} (kind : Kind) {numbers : List ℕ} → Shaped w (parts kind) numbers → Faultless query kind numbers → AllFalse (each_part (as_ungiven (λ s. given s query.terms)) (parts kind) numbers)
          → Placed query.terms (assigned (extend query kind numbers).guess) (next_term query.terms kind numbers)
      go Kind.free_base (one_part a no_part) faultless named = (tt, refl, tt)
      go Kind.free_boolean (one_part a no_part) faultless named = (tt, refl, tt)
      go Kind.variable no_part faultless named = (tt, refl, tt)
      go Kind.write (one_part a (one_part b (one_part c no_part))) faultless named = (omega (arith, leb-false), refl, tt)
      go Kind.conditional (one_part a (one_part b (one_part c no_part))) faultless named = (omega (arith, leb-false), refl, tt)
      go Kind.read (one_part a (one_part b (one_part c no_part))) faultless named = (omega (arith, leb-false), refl, tt)
      go Kind.equality (one_part {x = left} a (one_part {x = right} b (one_part {x = t} c (one_part {x = left_witness} d (one_part {x = right_witness} e no_part))))) faultless named =
          (omega (arith, leb-false), refl, next_witnessed left right t left_witness right_witness faultless (omega (arith, leb-false)) (omega (arith, leb-false)))
      go Kind.fixed (one_part {x = x} a no_part) faultless named = (tt, refl, next_fixed x)
