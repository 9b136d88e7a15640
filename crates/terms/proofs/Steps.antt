-- Loading, one field after another: what is left to do at a place is what the whole comes to.
-- Assumes nothing.
use Prim.Native.Nat.{ℕ, zero, suc, ◌+◌, ◌-◌, ◌<◌, ◌≤◌}
use native.Mathlib.Nat.{le_refl, le-suc, not-le_of_lt}
use native.Mathlib.Omega.{arith}
use mathlib.Core.Path.{◌≡◌, sym, ap, ◌∙◌}
use mathlib.Core.Logic.{◌⊎◌, inl, inr, ◌≢◌}
use mathlib.Core.List.{List, ◌∷◌}
use lib.ListN.{length, drop}
use Rattle.paper.specs.Lists.{first_met}
use Rattle.paper.specs.Fields.{Kind, Item, items_from}
use Rattle.paper.specs.Terms.{Query}
use Rattle.paper.specs.Load.{faults, extend, empty, Loaded, load_items, load}
use Rattle.meaning.proofs.Built.{items_enough, load_cases, load_field}
use Rattle.meaning.proofs.Refusals.{refusals}
use Rattle.query.specs.Standing.{end, broken, field, standing}
use Rattle.query.proofs.Laws.{items_end, items_broken, items_field}

-- what loading the bytes comes to is what loading the rest from a place on comes to, after this query
abbrev pub Left : List ℕ → (at : ℕ) → Query → Type 0
Left bytes at query = (bound : ℕ) × (length bytes - at ≤ bound) × (load 32 bytes ≡ load_items (items_from (suc bound) 32 at (drop at bytes)) query)

pub left_first : (bytes : List ℕ) → length bytes ≤ 4096 → Left bytes 0 empty
left_first bytes short = go (load_cases 32 bytes)
  where
    go : ((4096 < length bytes) × (load 32 bytes ≡ Loaded.refused 1 0)) ⊎ ((length bytes ≤ 4096) × (load 32 bytes ≡ load_items (items_from (length bytes) 32 0 bytes) empty)) → Left bytes 0 empty
    go (inl (long, is)) = absurd (not-le_of_lt long short)
    go (inr (within, is)) =
        (length bytes, omega arith, is ∙ ap (λ (items : List Item). load_items items empty) (items_enough (length bytes) (suc (length bytes)) 32 0 bytes (le_refl (length bytes)) (le-suc (length bytes))))

pub too_long : (bytes : List ℕ) → 4096 < length bytes → load 32 bytes ≡ Loaded.refused 1 0
too_long bytes long = go (load_cases 32 bytes)
  where
    go : ((4096 < length bytes) × (load 32 bytes ≡ Loaded.refused 1 0)) ⊎ ((length bytes ≤ 4096) × (load 32 bytes ≡ load_items (items_from (length bytes) 32 0 bytes) empty)) → load 32 bytes ≡ Loaded.refused 1 0
    go (inl (over, is)) = is
    go (inr (within, is)) = absurd (not-le_of_lt long within)

module _ (bytes : List ℕ) (at : ℕ) (query : Query) (left : Left bytes at query) where
  -- at the end all is accepted
  pub left_end : standing 32 bytes at ≡ end → load 32 bytes ≡ Loaded.accepted query
  left_end stands = left.2 ∙ ap (λ (items : List Item). load_items items query) (items_end 32 bytes at left.0 stands)

  -- a broken head refuses
  pub left_broken : (place refusal : ℕ) → standing 32 bytes at ≡ broken place refusal → load 32 bytes ≡ Loaded.refused refusal place
  left_broken place refusal stands = left.2 ∙ ap (λ (items : List Item). load_items items query) (items_broken 32 bytes at left.0 place refusal stands).0

  module _ (kind : Kind) (numbers : List ℕ) (next : ℕ) (stands : standing 32 bytes at ≡ field kind numbers next) where
    here : load 32 bytes ≡ load_items (Item.field at kind numbers ∷ items_from left.0 32 next (drop next bytes)) query
    here = left.2 ∙ ap (λ (items : List Item). load_items items query) (items_field 32 bytes at left.0 kind numbers next stands).0

    -- a fault refuses
    pub left_fault : first_met (faults query kind numbers) ≢ 0 → load 32 bytes ≡ Loaded.refused (first_met (faults query kind numbers)) at
    left_fault faulty = go (load_field at kind numbers (items_from left.0 32 next (drop next bytes)) query)
      where
        go : ((first_met (faults query kind numbers) ≡ 0) × (load_items (Item.field at kind numbers ∷ items_from left.0 32 next (drop next bytes)) query ≡ load_items (items_from left.0 32 next (drop next bytes)) (extend query kind numbers)))
            ⊎ ((first_met (faults query kind numbers) ≢ 0) × (load_items (Item.field at kind numbers ∷ items_from left.0 32 next (drop next bytes)) query ≡ Loaded.refused (first_met (faults query kind numbers)) at))
            → load 32 bytes ≡ Loaded.refused (first_met (faults query kind numbers)) at
        go (inl (none, is)) = absurd (faulty none)
        go (inr (some_fault, is)) = here ∙ is

    -- without one, what is left stands at the next place, which is further
    pub left_next : first_met (faults query kind numbers) ≡ 0 → Left bytes next (extend query kind numbers) × (at < next) × (next ≤ length bytes)
    left_next faultless = go (load_field at kind numbers (items_from left.0 32 next (drop next bytes)) query)
      where
        moved : (at + 3 ≤ next) × (next ≤ length bytes)
        moved = ((items_field 32 bytes at left.0 kind numbers next stands).1, (items_field 32 bytes at left.0 kind numbers next stands).2)

        go : ((first_met (faults query kind numbers) ≡ 0) × (load_items (Item.field at kind numbers ∷ items_from left.0 32 next (drop next bytes)) query ≡ load_items (items_from left.0 32 next (drop next bytes)) (extend query kind numbers)))
            ⊎ ((first_met (faults query kind numbers) ≢ 0) × (load_items (Item.field at kind numbers ∷ items_from left.0 32 next (drop next bytes)) query ≡ Loaded.refused (first_met (faults query kind numbers)) at))
            → Left bytes next (extend query kind numbers) × (at < next) × (next ≤ length bytes)
        go (inl (none, is)) = (rest left.0 left.1 (here ∙ is), omega (arith, moved.0), moved.1)
          where
            rest : (bound : ℕ) → length bytes - at ≤ bound → load 32 bytes ≡ load_items (items_from bound 32 next (drop next bytes)) (extend query kind numbers) → Left bytes next (extend query kind numbers)
            rest zero few is = absurd (omega (arith, few, moved.0, moved.1))
            rest (suc bound) few is = (bound, omega (arith, few, moved.0, moved.1), is)
        go (inr (some_fault, is)) = absurd (some_fault faultless)
