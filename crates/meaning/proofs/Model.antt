-- Where no two sources conflict, the model's memories are an interpretation with all the assigned values and truths.
-- Assumes nothing.
use Prim.Native.Nat.{ℕ, ◌<◌, ◌^◌}
use mathlib.Core.Path.{◌≡◌, refl, sym, ap, ◌∙◌}
use mathlib.Core.Logic.{◌⊎◌, inl, inr}
use mathlib.Core.Bool.{Bool, true, false, cond, not, true≢false, false≢true}
use mathlib.Core.List.Memᴰ
use mathlib.Core.List.{List, [], ◌∷◌}
use mathlib.Core.Option.{Option, none, some, none-ne-some}
use borrow.Author.Tests.{eqb-true, eq-eqb, ne_eqb}
use lib.Dec.{eqb}
use lib.Pow.{pow_pos}
use Rattle.paper.specs.Lists.{◌∈◌, map_option, or_else, find}
use Rattle.paper.specs.Fields.{base}
use Rattle.paper.specs.Terms.{Term, given, Assignment}
use Rattle.paper.specs.Interpretations.{Means, Interpretation}
use Rattle.paper.specs.Edges.{Place, at, index_number, covers, Source, source_of, sources, Guard, Edge, edge_of, edges, opens, open_edges}
use Rattle.paper.specs.Reach.{stay, index_value, reaches_at, reaches}
use Rattle.paper.specs.Conflict.{Pair, conflicts, first_pair, conflict}
use Rattle.paper.specs.Model.{value_given, model}
use Rattle.meaning.proofs.Lists.{find_in, find_none, find_same, same_test, concat_map_has, keep_has}
use Rattle.meaning.proofs.Walks.{walk_back, walk_on}
use Rattle.meaning.proofs.Accepted.{Witnessed}
use Rattle.meaning.proofs.Given.{Numbered, source_given}
use Rattle.meaning.proofs.Reach.{reached_walk, walk_reached}

module _ (terms : List Term) (numbered : Numbered terms) (g : Assignment) where
  -- no pair is taken: of any two sources one does not conflict with the other
  apart : (some_sources : List Source) {s t : Source} → first_pair terms g some_sources ≡ none → s ∈ some_sources → t ∈ some_sources
      → (s ≡ t) ⊎ ((conflicts terms g s t ≡ false) ⊎ (conflicts terms g t s ≡ false))
  apart [] e s_here t_here = absurd (Memᴰ.not-nil s_here)
  apart (first ∷ rest) {s} {t} e s_here t_here = go (find (conflicts terms g first) rest) refl e (Memᴰ.cases_cons s_here) (Memᴰ.cases_cons t_here) (λ below. apart rest below)
    where
      go : (later : Option Source) → find (conflicts terms g first) rest ≡ later
          → or_else (map_option {B = Pair} (λ t. record { first = first; later = t }) later) (first_pair terms g rest) ≡ none
          → (s ≡ first) ⊎ (s ∈ rest) → (t ≡ first) ⊎ (t ∈ rest)
          → (first_pair terms g rest ≡ none → s ∈ rest → t ∈ rest → (s ≡ t) ⊎ ((conflicts terms g s t ≡ false) ⊎ (conflicts terms g t s ≡ false)))
          → (s ≡ t) ⊎ ((conflicts terms g s t ≡ false) ⊎ (conflicts terms g t s ≡ false))
      go (some t) found e s_is t_is below = absurd (none-ne-some (record { first = first; later = t }) (sym e))
      go none found e (inl s_is) (inl t_is) below = inl (s_is ∙ sym t_is)
      go none found e (inl s_is) (inr t_in) below = inr (inl (rw s_is (find_none (conflicts terms g first) rest found t_in)))
      go none found e (inr s_in) (inl t_is) below = inr (inr (rw t_is (find_none (conflicts terms g first) rest found s_in)))
      go none found e (inr s_in) (inr t_in) below = below e s_in t_in

  -- two sources that do not conflict, at one index value, the first at the origin of the second: they have one value
  one_value : (s t : Source) → conflicts terms g s t ≡ false → index_value g s ≡ index_value g t → reaches terms g s t.origin ≡ true → g.value s.value ≡ g.value t.value
  unfolding conflicts
  one_value s t apart_here same reached = go (eqb (g.value s.value) (g.value t.value)) refl (rw (eq-eqb (index_value g s) (index_value g t) same, reached) at apart_here)
    where
      go : (b : Bool) → eqb (g.value s.value) (g.value t.value) ≡ b → cond b false true ≡ false → g.value s.value ≡ g.value t.value
      go true e kept = eqb-true (g.value s.value) (g.value t.value) e
      go false e kept = absurd (true≢false kept)

  module _ (quiet : conflict terms g ≡ none) where
    -- whatever source reaches the origin of another at its index value has its value
    pub agreed : (s t : Source) → s ∈ sources terms → t ∈ sources terms → index_value g s ≡ index_value g t → reaches_at terms g (index_value g t) s t.origin ≡ true
        → g.value s.value ≡ g.value t.value
    unfolding reaches conflict
    agreed s t s_here t_here same reached = go (apart (sources terms) quiet s_here t_here)
      where
        go : (s ≡ t) ⊎ ((conflicts terms g s t ≡ false) ⊎ (conflicts terms g t s ≡ false)) → g.value s.value ≡ g.value t.value
        go (inl one) = ap (λ (u : Source). g.value u.value) one
        go (inr (inl no_conflict)) = one_value s t no_conflict same (rw same reached)
        go (inr (inr no_conflict)) =
            let way = walk_back (reached_walk terms numbered g (index_value g t) s reached).1 in
            sym (one_value t s no_conflict (sym same) (walk_reached terms numbered g (index_value g t) t t_here way.1))

    -- what the model asks of a source
    asked : (a x : ℕ) → Source → Bool
    asked a x source = cond (covers g x source.place) (reaches_at terms g x source a) false

    asked_covers : (a x : ℕ) (source : Source) → asked a x source ≡ true → (index_value g source ≡ x) × (reaches_at terms g x source a ≡ true)
    unfolding asked
    asked_covers a x source passes = of_place source.place refl passes
      where
        of_place : (place : Place) → source.place ≡ place → cond (covers g x place) (reaches_at terms g x source a) false ≡ true
            → (index_value g source ≡ x) × (reaches_at terms g x source a ≡ true)
        of_place (at index) is passes = go (eqb (g.value index) x) refl passes
          where
            go : (b : Bool) → eqb (g.value index) x ≡ b → cond b (reaches_at terms g x source a) false ≡ true → (index_value g source ≡ x) × (reaches_at terms g x source a ≡ true)
            go true e passes = (ap (λ (p : Place). g.value (index_number p)) is ∙ eqb-true (g.value index) x e, passes)
            go false e passes = absurd (false≢true passes)

    covers_own : (place : Place) → covers g (g.value (index_number place)) place ≡ true
    covers_own (at index) = eq-eqb (g.value index) (g.value index) refl

    -- the model has each source's value at its origin and index
    pub model_source : (t : Source) → t ∈ sources terms → model terms g t.origin (index_value g t) ≡ g.value t.value
    unfolding model asked
    model_source t here = go (find (asked t.origin (index_value g t)) (sources terms)) refl
      where
        own : asked t.origin (index_value g t) t ≡ true
        own = rw (covers_own t.place, walk_reached terms numbered g (index_value g t) t here stay)

        go : (found : Option Source) → find (asked t.origin (index_value g t)) (sources terms) ≡ found → value_given g found ≡ g.value t.value
        go none e = absurd (false≢true (sym (find_none (asked t.origin (index_value g t)) (sources terms) e here) ∙ own))
        go (some s) e =
            let passes = find_in (asked t.origin (index_value g t)) (sources terms) e in
            let known = asked_covers t.origin (index_value g t) s passes.1 in
            agreed s t passes.0 here known.0 known.1

    -- the model agrees on both sides of an open edge
    pub model_edge : (x : ℕ) (edge : Edge) → edge ∈ open_edges terms g x → model terms g edge.left x ≡ model terms g edge.right x
    unfolding model
    model_edge x edge open_here = ap (value_given g) (find_same (sources terms) (λ source here. ap (λ (b : Bool). cond (covers g x source.place) b false) (both source here)))
      where
        both : (source : Source) → source ∈ sources terms → reaches_at terms g x source edge.left ≡ reaches_at terms g x source edge.right
        both source here =
            same_test (reaches_at terms g x source edge.left) (reaches_at terms g x source edge.right)
            (λ reached. walk_reached terms numbered g x source here (walk_on (reached_walk terms numbered g x source reached).1 open_here (inl (refl, refl))))
            (λ reached. walk_reached terms numbered g x source here (walk_on (reached_walk terms numbered g x source reached).1 open_here (inr (refl, refl))))

    open_edge : (x : ℕ) (term : Term) → term ∈ terms → (edge : Edge) → edge ∈ edge_of term → opens g x edge.guard ≡ true → edge ∈ open_edges terms g x
    unfolding open_edges edges
    open_edge x term here edge of_term opened = keep_has (λ one. opens g x one.guard) (edges terms) (concat_map_has edge_of terms here of_term) opened

    source_here : (term : Term) → term ∈ terms → (source : Source) → source ∈ source_of term → source ∈ sources terms
    unfolding sources
    source_here term here source of_term = concat_map_has source_of terms here of_term

    module _ (w : ℕ) (small : (b : ℕ) → b < given base terms → g.value b < 2 ^ w) (witnessed : (term : Term) → term ∈ terms → Witnessed terms g term) where
      read_source : (own from index : ℕ) → Term.read own from index ∈ terms → model terms g from (g.value index) ≡ g.value own
      read_source own from index here =
          model_source (record { origin = from; place = at index; value = own })
          (source_here (Term.read own from index) here (record { origin = from; place = at index; value = own }) (Memᴰ.head refl))

      -- what each term says holds of the model
      model_means : (term : Term) → term ∈ terms → Means w g (model terms g) term
      model_means (Term.free_base own) here = tt
      model_means (Term.free_boolean own) here = tt
      model_means (Term.variable own) here = tt
      model_means (Term.write own beneath index value) here = (
        model_source (record { origin = own; place = at index; value = value })
            (source_here (Term.write own beneath index value) here (record { origin = own; place = at index; value = value }) (Memᴰ.head refl)),
        λ x inside differs.
            model_edge x (record { left = own; right = beneath; guard = Guard.differ index })
            (open_edge x (Term.write own beneath index value) here (record { left = own; right = beneath; guard = Guard.differ index }) (Memᴰ.head refl)
            (ap not (ne_eqb (g.value index) x (λ same. differs (sym same))))),
      )
      model_means (Term.conditional own chooser if_true if_false) here = λ x inside. go x (g.truth chooser) refl
        where
          go : (x : ℕ) (truth : Bool) → g.truth chooser ≡ truth → model terms g own x ≡ model terms g (cond truth if_true if_false) x
          go x true e =
              model_edge x (record { left = own; right = if_true; guard = Guard.is_true chooser })
              (open_edge x (Term.conditional own chooser if_true if_false) here (record { left = own; right = if_true; guard = Guard.is_true chooser }) (Memᴰ.head refl) e)
          go x false e =
              model_edge x (record { left = own; right = if_false; guard = Guard.is_false chooser })
              (open_edge x (Term.conditional own chooser if_true if_false) here (record { left = own; right = if_false; guard = Guard.is_false chooser }) (Memᴰ.tail (Memᴰ.head refl)) (ap not e))
      model_means (Term.read own from index) here = sym (read_source own from index here)
      model_means (Term.equality own left right left_witness right_witness) here = (
        (λ holds x inside.
            model_edge x (record { left = left; right = right; guard = Guard.is_true own })
            (open_edge x (Term.equality own left right left_witness right_witness) here (record { left = left; right = right; guard = Guard.is_true own }) (Memᴰ.head refl) holds)),
        λ agree. go (g.truth own) refl agree,
      )
        where
          go : (truth : Bool) → g.truth own ≡ truth → ((x : ℕ) → x < 2 ^ w → model terms g left x ≡ model terms g right x) → truth ≡ true
          go true e agree = refl
          go false e agree =
              let seen = witnessed (Term.equality own left right left_witness right_witness) here in
              let i = seen.0 in
              let inside = small i (numbered.names (Term.read left_witness left i) seen.1).1 in
              absurd (seen.3 e (sym (read_source left_witness left i seen.1) ∙ agree (g.value i) inside ∙ read_source right_witness right i seen.2))
      model_means (Term.fixed own value) here = witnessed (Term.fixed own value) here

      model_small : (a x : ℕ) → model terms g a x < 2 ^ w
      unfolding model
      model_small a x = go (find (λ source. cond (covers g x source.place) (reaches_at terms g x source a) false) (sources terms)) refl
        where
          go : (found : Option Source) → find (λ source. cond (covers g x source.place) (reaches_at terms g x source a) false) (sources terms) ≡ found → value_given g found < 2 ^ w
          go none e = pow_pos w
          go (some source) e =
              small source.value
              (source_given terms numbered source (find_in (λ one. cond (covers g x one.place) (reaches_at terms g x one a) false) (sources terms) e).0).value

      -- The model is an interpretation
      pub model_interprets : Interpretation w terms g (model terms g)
      model_interprets = record { values = small; cells = λ a x a_given inside. model_small a x; holds = model_means }
