-- 02, E7, "Growing a query can't mend it": what a front that is cut between two fields has to do with the whole. Its sources and open edges are
-- among those of the whole, so its walks are walks of the whole, and a conflict stays. What interprets the whole interprets the front, so
-- memories go down to fronts, and a front's lemma holds of the whole.
-- Assumes nothing.
use Prim.Native.Nat.{ℕ, ◌<◌, ◌≤◌}
use native.Mathlib.Omega.{arith}
use mathlib.Core.Path.{◌≡◌, sym, ap, ◌∙◌, subst}
use mathlib.Core.Bool.{Bool, false, not}
use mathlib.Core.List.Memᴰ
use mathlib.Core.List.{List}
use mathlib.Core.Option.{none, some}
use lib.Dec.{eqb}
use lib.ListN.{get_or, get_or-append}
use Rattle.paper.specs.Lists.{◌∈◌, concat_map}
use Rattle.paper.specs.Fields.{Series, base, boolean, array}
use Rattle.paper.specs.Terms.{Term, series, given, Query, Assignment}
use Rattle.paper.specs.Interpretations.{Memories, Means, Interpretation}
use Rattle.paper.specs.Edges.{index_number, Source, source_of, sources, Guard, Edge, edge_of, edges, opens, open_edges}
use Rattle.paper.specs.Reach.{index_value, Reaches}
use Rattle.paper.specs.Conflict.{Pair}
use Rattle.meaning.proofs.Placed.{Below, own_number, given_grows}
use Rattle.meaning.proofs.Accepted.{Accepted}
use Rattle.meaning.proofs.Lists.{keep_in, keep_has, concat_map_append}
use Rattle.meaning.proofs.Walks.{walk_among}
use Rattle.meaning.proofs.Given.{Numbered, GuardGiven, edge_given, source_given}
use Rattle.meaning.proofs.Reach.{reach_agrees, walk_reached}
use Rattle.meaning.proofs.Conflicts.{clash, taken_first, taken_later}
use Rattle.meaning.proofs.Model.{agreed}
use Rattle.meaning.proofs.Whole.{guess_of, pair_of, lemma_of}
use Rattle.meaning.proofs.Literals.{lemma_same}
use Rattle.meaning.proofs.Verdict.{numbered, pair_taken, lemma_sound, lemma_false, lemma_names}
use Rattle.meaning.proofs.Demands.{RulesOut}
use Rattle.meaning.proofs.Begins.{Begins}

-- An interpretation goes by the values and truths of the given terms alone
module _ (w : ℕ) (terms : List Term) (number : Numbered terms) (g h : Assignment) (memory : Memories)
    (values : (b : ℕ) → b < given base terms → h.value b ≡ g.value b) (truths : (m : ℕ) → m < given boolean terms → h.truth m ≡ g.truth m) where
  means_alike : (term : Term) → Below (λ s. given s terms) term → own_number term < given (series term) terms → Means w g memory term → Means w h memory term
  means_alike (Term.free_base own) names inside means = tt
  means_alike (Term.free_boolean own) names inside means = tt
  means_alike (Term.variable own) names inside means = tt
  means_alike (Term.write own beneath index value) names inside means = rw (values index names.1, values value names.2) means
  means_alike (Term.conditional own chooser if_true if_false) names inside means = rw (truths chooser names.0) means
  means_alike (Term.read own from index) names inside means = rw (values own inside, values index names.1) means
  means_alike (Term.equality own left right left_witness right_witness) names inside means = rw (truths own inside) means
  means_alike (Term.fixed own value) names inside means = values own inside ∙ means

  interprets_alike : Interpretation w terms g memory → Interpretation w terms h memory
  interprets_alike valid =
      record {
        values = λ b here. rw (values b here) (valid.values b here);
        cells = valid.cells;
        holds = λ term here. means_alike term (number.names term here) (number.own term here) (valid.holds term here);
      }

-- A query, and one that begins it
module _ {w : ℕ} {front whole : Query} (ok : Accepted w front) (on : Begins front whole) where
  fewer : (s : Series) → given s front.terms ≤ given s whole.terms
  fewer s = given_grows s front.terms on.more_terms on.terms

  -- the guess of the whole is that of the front on the front's terms
  values_kept : (b : ℕ) → b < given base front.terms → (guess_of whole).value b ≡ (guess_of front).value b
  values_kept b here =
      ap (λ (l : List ℕ). get_or l b 0) on.values ∙ get_or-append front.guess.values on.more_values 0 b (rw ok.values here)

  truths_kept : (m : ℕ) → m < given boolean front.terms → (guess_of whole).truth m ≡ (guess_of front).truth m
  truths_kept m here =
      ap (λ (l : List Bool). get_or l m false) on.truths ∙ get_or-append front.guess.truths on.more_truths false m (rw ok.truths here)

  -- its sources are among those of the whole, and so are its edges that are open to an index value
  source_kept : (source : Source) → source ∈ sources front.terms → source ∈ sources whole.terms
  unfolding sources
  source_kept source here = rw on.terms (rw (concat_map_append source_of front.terms on.more_terms) (Memᴰ.append_left (concat_map source_of on.more_terms) here))

  opens_kept : (x : ℕ) (guard : Guard) → GuardGiven (given base front.terms) (given boolean front.terms) guard → opens (guess_of whole) x guard ≡ opens (guess_of front) x guard
  opens_kept x (Guard.differ index) here = ap (λ (v : ℕ). not (eqb v x)) (values_kept index here)
  opens_kept x (Guard.is_true m) here = truths_kept m here
  opens_kept x (Guard.is_false m) here = ap not (truths_kept m here)

  open_kept : (x : ℕ) (edge : Edge) → edge ∈ open_edges front.terms (guess_of front) x → edge ∈ open_edges whole.terms (guess_of whole) x
  unfolding open_edges edges
  open_kept x edge here =
      let (there, opened) = keep_in (λ one. opens (guess_of front) x one.guard) (edges front.terms) here in
      let more : edge ∈ concat_map edge_of whole.terms = rw on.terms (rw (concat_map_append edge_of front.terms on.more_terms) (Memᴰ.append_left (concat_map edge_of on.more_terms) there)) in
      keep_has (λ one. opens (guess_of whole) x one.guard) (edges whole.terms) more
      (opens_kept x edge.guard (edge_given front.terms (numbered ok) edge there).guard ∙ opened)

  index_kept : (source : Source) → source ∈ sources front.terms → index_value (guess_of whole) source ≡ index_value (guess_of front) source
  index_kept source here = values_kept (index_number source.place) (source_given front.terms (numbered ok) source here).place

  -- so what a source reaches, it still reaches
  pub reach_kept : (source : Source) → source ∈ sources front.terms → (a : ℕ)
      → Reaches front.terms (guess_of front) source a → Reaches whole.terms (guess_of whole) source a
  reach_kept source here a (walked, way) = (walked, rw (index_kept source here) (walk_among (open_kept (index_value (guess_of front) source)) way))

  -- and two sources that conflict still do: with no pair in the whole they would have one value
  pub pair_kept : Accepted w whole → (pair : Pair) → pair_of front ≡ some pair → pair_of whole ≡ none → ⊥
  pair_kept ok_whole pair found quiet =
      let one = pair_taken ok pair found in
      let known = clash front.terms (guess_of front) pair.first pair.later one.clash in
      let s_here = taken_first front.terms (guess_of front) one in
      let t_here = taken_later front.terms (guess_of front) one in
      let way = reach_kept pair.first s_here pair.later.origin ((reach_agrees front.terms (numbered ok) (guess_of front) pair.first s_here pair.later.origin).0 known.reached) in
      let same : index_value (guess_of whole) pair.first ≡ index_value (guess_of whole) pair.later =
      index_kept pair.first s_here ∙ known.indices ∙ sym (index_kept pair.later t_here) in
      let value = agreed whole.terms (numbered ok_whole) (guess_of whole) quiet pair.first pair.later (source_kept pair.first s_here) (source_kept pair.later t_here) same
      (rw (← same) (walk_reached whole.terms (numbered ok_whole) (guess_of whole) (index_value (guess_of whole) pair.first) pair.first (source_kept pair.first s_here) way.1)) in
      known.values
      (sym (values_kept pair.first.value (source_given front.terms (numbered ok) pair.first s_here).value)
      ∙ value
      ∙ values_kept pair.later.value (source_given front.terms (numbered ok) pair.later t_here).value)

  -- an interpretation of the whole is one of the front
  interprets_front : {g : Assignment} {memory : Memories} → Interpretation w whole.terms g memory → Interpretation w front.terms g memory
  interprets_front valid =
      record {
        values = λ b here. valid.values b (omega (arith, fewer base, here));
        cells = λ a x here inside. valid.cells a x (omega (arith, fewer array, here)) inside;
        holds = λ term here. valid.holds term (subst (λ (l : List Term). term ∈ l) (sym on.terms) (Memᴰ.append_left on.more_terms here));
      }

  -- memories of the whole, with its guess, are memories of the front with its own
  pub memories_front : {memory : Memories} → Interpretation w whole.terms (guess_of whole) memory → Interpretation w front.terms (guess_of front) memory
  memories_front {memory} valid =
      interprets_alike w front.terms (numbered ok) (guess_of whole) (guess_of front) memory
      (λ b here. sym (values_kept b here)) (λ m here. sym (truths_kept m here)) (interprets_front valid)

  -- a lemma that names the front's terms and rules its guess out rules out the whole's
  pub rules_out_whole : (pair : Pair) → pair_of front ≡ some pair → RulesOut w whole (lemma_of front pair)
  rules_out_whole pair found =
      record {
        everywhere = λ g memory valid. lemma_sound ok pair found g memory (interprets_front valid);
        not_here = lemma_same values_kept truths_kept (lemma_of front pair) (lemma_names ok pair found) ∙ lemma_false ok pair found;
      }
