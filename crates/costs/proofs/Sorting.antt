-- Writes and other edges, each in their words: what one row more puts, and where.
-- Assumes nothing.
use Rattle.std.proofs.Common.{◌≡◌, ℕ, ◌+◌, ◌<◌, ◌≤◌, Bool, true, false, not, List, [], ◌∷◌, ◌++◌, length, get_or, take, sym, ap, ◌∙◌, subst, arith}
use lib.Seq.{get_or-take, length-take-le}
use Rattle.paper.specs.Lists.{keep, concat_map}
use Rattle.paper.specs.Edges.{Edge}
use Rattle.paper.specs.Reach.{is_write}
use Rattle.meaning.proofs.Lists.{keep_append}
use Rattle.terms.specs.Tables.{edges_in}
use Rattle.terms.specs.Graph.{open_in, Each}
use Rattle.reach.specs.Steps.{Adjacent, EndsBelow, Lent, with_edge}
use Rattle.reach.proofs.Words.{none_more, one_more, rows_more, open_each}
use Rattle.costs.specs.Levels.{Sorted}

module _ {rows : List ℕ} {count : ℕ} (lent : Lent rows count 48) {k : ℕ} (inside : k < length (take count rows)) where
  few : count ≤ length rows
  few = omega (arith, lent.few, lent.long)

  below : k < count
  below = omega (arith, length-take-le count rows few, inside)

  row_is : get_or (take count rows) k 0 ≡ get_or rows k 0
  row_is = get_or-take count rows k 0 below

module _ (values truths : List ℕ) (x : ℕ) {rows : List ℕ} {count : ℕ} (lent : Lent rows count 48) {k : ℕ} (inside : k < length (take count rows)) where
  abbrev edges_here : List Edge
  edges_here = open_in values truths x (get_or (take count rows) k 0)

  -- the ends of an edge that is open are array terms
  pub open_ends : {edge : Edge} → edge ∷ [] ≡ edges_here → (edge.left < 48) × (edge.right < 48)
  open_ends is =
      let ends : Each (EndsBelow 48) (edges_in (get_or (take count rows) k 0)) = rw (row_is lent inside) (lent.ends k (below lent inside)) in
      (subst (Each (EndsBelow 48)) (sym is) (open_each (EndsBelow 48) values truths x (get_or (take count rows) k 0) ends)).0

  abbrev before : List Edge
  before = concat_map (open_in values truths x) (take k rows)

  abbrev upto : List Edge
  upto = concat_map (open_in values truths x) (take (k + 1) rows)

  module _ {cheap writes : List ℕ} (known : Sorted before cheap writes) where
    -- of the edges that pass a test: those before, and of the row's those that pass
    more : (test : Edge → Bool) (new : List Edge) → new ≡ edges_here → {after : List ℕ} → Adjacent (keep test before ++ keep test new) after → Adjacent (keep test upto) after
    more test new is {after} adjacent =
        let long : k < length rows = omega (arith, below lent inside, few lent inside) in
        subst (λ (edges : List Edge). Adjacent edges after)
        (sym (keep_append test before new)
        ∙ ap (λ (last : List Edge). keep test (before ++ last)) (is ∙ ap (open_in values truths x) (row_is lent inside))
        ∙ ap (keep test) (sym (rows_more (open_in values truths x) rows k long)))
        adjacent

    abbrev others : Edge → Bool
    others edge = not (is_write edge.guard)

    abbrev writing : Edge → Bool
    writing edge = is_write edge.guard

    -- a row that is open to no edge
    pub sorted_none : [] ≡ edges_here → Sorted upto cheap writes
    sorted_none is = (more others [] is (none_more known.0), more writing [] is (none_more known.1))

    module _ {edge : Edge} (is : edge ∷ [] ≡ edges_here) where
      kept : {edges : List Edge} {words : List ℕ} → Adjacent edges words → Adjacent (edges ++ edge ∷ []) (with_edge edge.left edge.right words)
      kept adjacent = one_more adjacent edge (open_ends is).0 (open_ends is).1

      -- one that is open to a write
      pub sorted_write : is_write edge.guard ≡ true → Sorted upto cheap (with_edge edge.left edge.right writes)
      sorted_write write = (more others (edge ∷ []) is (rw write (none_more known.0)), more writing (edge ∷ []) is (rw write (kept known.1)))

      -- and one that is open to any other edge
      pub sorted_other : is_write edge.guard ≡ false → Sorted upto (with_edge edge.left edge.right cheap) writes
      sorted_other other = (more others (edge ∷ []) is (rw other (kept known.0)), more writing (edge ∷ []) is (rw other (none_more known.1)))
