-- 02, E7, of queries: a front that is cut between two fields is accepted where the whole is, and its terms and guess begin those of the whole;
-- and a front that is accepted is cut between two fields.
-- Assumes nothing.
use Prim.Native.Nat.{ℕ, ◌≤◌}
use native.Mathlib.Nat.{le_refl, zero-add}
use native.Mathlib.Omega.{arith}
use mathlib.Core.Path.{◌≡◌, refl, sym, ap, ◌∙◌, subst}
use mathlib.Core.Logic.{⊎_elim}
use mathlib.Core.Bool.{Bool}
use mathlib.Core.List.{List, [], ◌∷◌, ◌++◌, map, append-nil, append_assoc}
use lib.Dec.{eqb}
use lib.ListN.{length, length-append}
use Rattle.paper.specs.Lists.{◌∈◌, first_met}
use Rattle.paper.specs.Fields.{Kind, parts, Item, field, broken, items_from, items}
use Rattle.paper.specs.Terms.{Term, Query}
use Rattle.paper.specs.Load.{each_part, as_value, as_truth, next_term, faults, extend, empty, Loaded, load_items, max_bytes, load}
use Rattle.paper.specs.Fronts.{cuts, IsFront}
use Rattle.meaning.proofs.Built.{items_enough, load_cases, load_field, refused_accepted}
use Rattle.meaning.proofs.Fronts.{AllFields, front_items, front_place}

-- A query that begins another: its terms and its guess are the first of the other's
pub record Begins (front whole : Query) : Type 0 where
  pub more_terms : List Term
  pub terms : whole.terms ≡ front.terms ++ more_terms
  pub more_values : List ℕ
  pub values : whole.guess.values ≡ front.guess.values ++ more_values
  pub more_truths : List Bool
  pub truths : whole.guess.truths ≡ front.guess.truths ++ more_truths

begins_itself : (query : Query) → Begins query query
begins_itself query =
    record {
      more_terms = [];
      terms = sym (append-nil query.terms);
      more_values = [];
      values = sym (append-nil query.guess.values);
      more_truths = [];
      truths = sym (append-nil query.guess.truths);
    }

begins_extended : (query whole : Query) (kind : Kind) (numbers : List ℕ) → Begins (extend query kind numbers) whole → Begins query whole
unfolding extend
begins_extended query whole kind numbers on =
    record {
      more_terms = (next_term query.terms kind numbers ∷ []) ++ on.more_terms;
      terms = on.terms ∙ append_assoc query.terms (next_term query.terms kind numbers ∷ []) on.more_terms;
      more_values = each_part as_value (parts kind) numbers ++ on.more_values;
      values = on.values ∙ append_assoc query.guess.values (each_part as_value (parts kind) numbers) on.more_values;
      more_truths = map (eqb 1) (each_part as_truth (parts kind) numbers) ++ on.more_truths;
      truths = on.truths ∙ append_assoc query.guess.truths (map (eqb 1) (each_part as_truth (parts kind) numbers)) on.more_truths;
    }

-- a field of which no test is met, and then the rest
goes_on : (at : ℕ) (kind : Kind) (numbers : List ℕ) (rest : List Item) (query : Query) → first_met (faults query kind numbers) ≡ 0
    → load_items (field at kind numbers ∷ rest) query ≡ load_items rest (extend query kind numbers)
goes_on at kind numbers rest query unmet = rw unmet

-- What is loaded of the first items of a run begins what is loaded of all
load_front : (its after : List Item) (query answer : Query) → load_items (its ++ after) query ≡ Loaded.accepted answer
    → (front : Query) × (load_items its query ≡ Loaded.accepted front) × Begins front answer
load_front [] after query answer e = (query, refl, all after query answer e)
  where
    all : (after : List Item) (query answer : Query) → load_items after query ≡ Loaded.accepted answer → Begins query answer
    all [] query answer e = let same : query ≡ answer = cc in subst (Begins query) same (begins_itself query)
    all (broken at refusal ∷ after) query answer e = refused_accepted refl e
    all (field at kind numbers ∷ after) query answer e =
        ⊎_elim (λ unmet. begins_extended query answer kind numbers (all after (extend query kind numbers) answer (sym unmet.1 ∙ e)))
        (λ met. refused_accepted met.1 e) (load_field at kind numbers after query)
load_front (broken at refusal ∷ its) after query answer e = refused_accepted refl e
load_front (field at kind numbers ∷ its) after query answer e =
    ⊎_elim
    (λ unmet.
    let (front, ok, on) = load_front its after (extend query kind numbers) answer (sym unmet.1 ∙ e) in
    (front, goes_on at kind numbers its query unmet.0 ∙ ok, on))
    (λ met. refused_accepted met.1 e) (load_field at kind numbers (its ++ after) query)

-- what is loaded has no broken item
loaded_fields : (its : List Item) (query answer : Query) → load_items its query ≡ Loaded.accepted answer → AllFields its
loaded_fields [] query answer e = tt
loaded_fields (broken at refusal ∷ its) query answer e = refused_accepted refl e
loaded_fields (field at kind numbers ∷ its) query answer e =
    ⊎_elim (λ unmet. loaded_fields its (extend query kind numbers) answer (sym unmet.1 ∙ e)) (λ met. refused_accepted met.1 e) (load_field at kind numbers its query)

-- what is accepted is short enough, and loads by its items
accepted_loads : (w : ℕ) (bytes : List ℕ) (query : Query) → load w bytes ≡ Loaded.accepted query → (length bytes ≤ max_bytes) × (load_items (items w bytes) empty ≡ Loaded.accepted query)
accepted_loads w bytes query loaded = ⊎_elim (λ long. refused_accepted long.1 loaded) (λ short. (short.0, sym short.1 ∙ loaded)) (load_cases w bytes)

module _ (w : ℕ) (front rest : List ℕ) where
  abbrev whole : List ℕ
  whole = front ++ rest

  shorter : length front ≤ length whole
  shorter = rw length-append (omega arith)

  -- cut between two fields, the front is accepted, and begins the whole
  cut_accepted : (query : Query) → load w whole ≡ Loaded.accepted query → length front ∈ cuts w whole
      → (part : Query) × (load w front ≡ Loaded.accepted part) × Begins part query
  cut_accepted query loaded here =
      let (few, by_items) = accepted_loads w whole query loaded in
      let (after, are) =
      front_items (length whole) w 0 front rest (le_refl (length whole)) (loaded_fields (items w whole) empty query by_items)
      (rw (zero-add (length front), zero-add (length whole)) here) in
      let (part, ok, on) = load_front (items_from (length whole) w 0 front) after empty query (rw are at by_items) in
      let enough = items_enough (length front) (length whole) w 0 front (le_refl (length front)) shorter in
      (part, loads part few (ap (λ (l : List Item). load_items l empty) enough ∙ ok), on)
    where
      loads : (part : Query) → length whole ≤ max_bytes → load_items (items w front) empty ≡ Loaded.accepted part → load w front ≡ Loaded.accepted part
      loads part few ok = ⊎_elim (λ long. absurd (omega (arith, long.0, shorter))) (λ short. short.1 ∙ ok) (load_cases w front)

  -- accepted, the front is cut between two fields
  accepted_cut : (part : Query) → load w front ≡ Loaded.accepted part → length front ∈ cuts w whole
  accepted_cut part loaded =
      let by_items = (accepted_loads w front part loaded).1 in
      let there = front_place (length front) (length whole) w 0 front rest (le_refl (length front)) (le_refl (length whole)) (loaded_fields (items w front) empty part by_items) in
      rw (zero-add (length front), zero-add (length whole)) at there

-- An accepted query cut between two fields: the front is accepted, and begins the whole
pub front_accepted : (w : ℕ) (front bytes : List ℕ) (query : Query) → load w bytes ≡ Loaded.accepted query → IsFront w front bytes
    → (part : Query) × (load w front ≡ Loaded.accepted part) × Begins part query
front_accepted w front bytes query loaded (rest, is, here) = cut_accepted w front rest query (rw is at loaded) (rw is at here)

-- and what is accepted and goes on in any way is cut there between two fields
pub accepted_front : (w : ℕ) (front rest : List ℕ) (part : Query) → load w front ≡ Loaded.accepted part → IsFront w front (front ++ rest)
accepted_front w front rest part loaded = (rest, refl, accepted_cut w front rest part loaded)
