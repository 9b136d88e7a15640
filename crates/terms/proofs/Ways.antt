-- Tables that hold an accepted query have its graph: every row names what is given, and the rows open to an index value are the paper's edges.
-- Assumes nothing.
use Prim.Native.Nat.{ℕ, zero, suc, ◌/◌, ◌%◌, ◌<◌, ◌≤◌}
use native.Mathlib.Decide.{ℕ_discrete}
use native.Mathlib.Nat.{mod-eq_of_lt}
use native.Mathlib.Omega.{arith}
use mathlib.Core.Path.{◌≡◌, refl, sym, ap, ap₂, ◌∙◌, subst, fun_ext}
use mathlib.Core.Bool.{Bool, true, false, cond, not, false≢true}
use mathlib.Core.Logic.{◌≢◌}
use mathlib.Core.List.Memᴰ
use mathlib.Core.List.{List, [], ◌∷◌, ◌++◌}
use borrow.Author.Tests.{ne_eqb}
use lib.Dec.{eqb}
use lib.ListN.{get_or, take}
use Rattle.paper.specs.Lists.{◌∈◌, concat_map, keep}
use Rattle.paper.specs.Fields.{Series, base, boolean}
use Rattle.paper.specs.Terms.{Term, series, given, Query, Assignment, assigned}
use Rattle.paper.specs.Load.{load, Loaded}
use Rattle.paper.specs.Edges.{source_of, sources, Guard, Edge, edge_of, edges, opens, open_edges}
use Rattle.meaning.proofs.Lists.{keep_append}
use Rattle.meaning.proofs.Built.{AreBytes}
use Rattle.meaning.proofs.Accepted.{Below, own_number, Accepted, accepted, below, own_below}
use Rattle.terms.specs.declared.Tables.{Tables}
use Rattle.terms.specs.Tables.{source_in, edges_of, edges_in}
use Rattle.faults.specs.Faults.{count_in}
use Rattle.terms.specs.Holds.{Holds, as_source}
use Rattle.terms.specs.Graph.{shut_to, open_of, open_in, may_open, Each, SourceWithin, EdgeWithin, Graphed}
use Rattle.terms.proofs.Columns.{each_as, value_at_lem, truth_at}

module _ {A B : Type 0} (P : B → Type 0) (f : A → List B) where
  joined : (xs ys : List B) → Each P xs → Each P ys → Each P (xs ++ ys)
  joined [] ys here there = there
  joined (x ∷ xs) ys (one, here) there = (one, joined xs ys here there)

  parted : (xs ys : List B) → Each P (xs ++ ys) → Each P xs × Each P ys
  parted [] ys all = (tt, all)
  parted (x ∷ xs) ys (one, all) = let rest = parted xs ys all in ((one, rest.0), rest.1)

  -- what holds of each member of a list's parts
  each_part : (xs : List A) → ((x : A) → x ∈ xs → Each P (f x)) → Each P (concat_map f xs)
  each_part [] of_each = tt
  each_part (x ∷ xs) of_each = joined (f x) (concat_map f xs) (of_each x (Memᴰ.head refl)) (each_part xs (λ y here. of_each y (Memᴰ.tail here)))

  part_each : (xs : List A) → Each P (concat_map f xs) → Each (λ x. Each P (f x)) xs
  part_each [] all = tt
  part_each (x ∷ xs) all = let two = parted (f x) (concat_map f xs) all in (two.0, part_each xs two.1)

-- what a term's source and edges name is given, where what the term names is
source_within : (c : Series → ℕ) (term : Term) → Below c term → own_number term < c (series term) → Each (SourceWithin c) (source_of term)
source_within c (Term.free_base own) names inside = tt
source_within c (Term.free_boolean own) names inside = tt
source_within c (Term.variable own) names inside = tt
source_within c (Term.write own beneath index value) names inside = omega arith
source_within c (Term.conditional own chooser if_true if_false) names inside = tt
source_within c (Term.read own from index) names inside = omega arith
source_within c (Term.equality own left right left_witness right_witness) names inside = tt
source_within c (Term.fixed own value) names inside = tt

edge_within : (c : Series → ℕ) (term : Term) → Below c term → own_number term < c (series term) → Each (EdgeWithin c) (edge_of term)
edge_within c (Term.free_base own) names inside = tt
edge_within c (Term.free_boolean own) names inside = tt
edge_within c (Term.variable own) names inside = tt
edge_within c (Term.write own beneath index value) names inside = omega arith
edge_within c (Term.conditional own chooser if_true if_false) names inside = omega arith
edge_within c (Term.read own from index) names inside = tt
edge_within c (Term.equality own left right left_witness right_witness) names inside = omega arith
edge_within c (Term.fixed own value) names inside = tt

shut_or_not : (edge : Edge) (shut : Bool) → cond shut [] (edge ∷ []) ≡ cond (not shut) (edge ∷ []) []
shut_or_not edge true = refl
shut_or_not edge false = refl

one_or_other : (one other : Edge) (chosen : Bool) → cond chosen (one ∷ []) (other ∷ []) ≡ cond chosen (one ∷ cond (not chosen) (other ∷ []) []) (cond (not chosen) (other ∷ []) [])
one_or_other one other true = refl
one_or_other one other false = refl

-- the open edge of a row, by the code's tests
module _ (values truths : List ℕ) (x left right other number guard : ℕ) where
  pub open_other : guard ≡ 1 → get_or truths (number % 64) 0 ≢ 1 → open_of values truths x left right other number guard ≡ record { left = left; right = other; guard = Guard.is_false number } ∷ []
  open_other kind untrue = rw (kind, ne_eqb 1 (get_or truths (number % 64) 0) (λ e. untrue (sym e)))

-- what a write's row says, whatever it is open to
abbrev pub written : (row : ℕ) → Edge
written row = record { left = row % 64; right = row / 64 % 64; guard = Guard.differ (row / 262144 % 256) }

-- no index value 1 where every base term is 0
never_shut : (row : ℕ) → shut_to [] 1 row ≡ false
unfolding shut_to
never_shut row = go (eqb (row / 67108864) 0)
  where
    go : (b : Bool) → cond b false false ≡ false
    go true = refl
    go false = refl

module _ (values truths : List ℕ) (row : ℕ) where
  -- a write's row is open to every index value that does not shut it
  write_open : row / 67108864 ≡ 0 → (x : ℕ) → open_in values truths x row ≡ cond (not (shut_to values x row)) (written row ∷ []) []
  unfolding shut_to open_in
  write_open kind x = rw kind (shut_or_not (written row) (eqb (get_or values (row / 262144 % 256) 0) x))

  -- only a write's row is shut
  pub shut_write : (x : ℕ) → shut_to values x row ≡ true → row / 67108864 ≡ 0
  unfolding shut_to
  shut_write x shut = go (ℕ_discrete (row / 67108864) 0)
    where
      go : Dec (row / 67108864 ≡ 0) → row / 67108864 ≡ 0
      go (yes kind) = kind
      go (no other) = absurd (false≢true (rw (ne_eqb (row / 67108864) 0 other) at shut))

  -- and joins nothing then
  pub shut_none : (x : ℕ) → shut_to values x row ≡ true → open_in values truths x row ≡ []
  shut_none x shut = write_open (shut_write x shut) x ∙ ap (λ (b : Bool). cond (not b) (written row ∷ []) []) shut

-- what a write's row joins, unless it is shut
pub may_write : (truths : List ℕ) (row : ℕ) → row / 67108864 ≡ 0 → may_open truths row ≡ written row ∷ []
may_write truths row kind = write_open [] truths row kind 1 ∙ ap (λ (b : Bool). cond (not b) (written row ∷ []) []) (never_shut row)

-- a row that is not shut joins what it may
module _ (values truths : List ℕ) (row x : ℕ) (unshut : shut_to values x row ≡ false) where
  alike : (guard : ℕ) → row / 67108864 ≡ guard → open_in values truths x row ≡ open_in [] truths 1 row
  unfolding open_in
  alike zero kind = write_open values truths row kind x ∙ ap (λ (b : Bool). cond (not b) (written row ∷ []) []) unshut ∙ sym (may_write truths row kind)
  alike (suc zero) kind = rw kind
  alike (suc (suc guard)) kind = rw kind

  pub may_open_lem : open_in values truths x row ≡ may_open truths row
  may_open_lem = alike (row / 67108864) refl

module _ (values truths : List ℕ) (x left right other number : ℕ) where
  pub open_true : (guard : ℕ) → guard ≢ 0 → get_or truths (number % 64) 0 ≡ 1
      → open_of values truths x left right other number guard ≡ record { left = left; right = right; guard = Guard.is_true number } ∷ []
  open_true zero nonzero holds = absurd (nonzero refl)
  open_true (suc zero) nonzero holds = rw holds
  open_true (suc (suc guard)) nonzero holds = rw holds

  pub shut_false : (guard : ℕ) → guard ≢ 0 → guard ≢ 1 → get_or truths (number % 64) 0 ≢ 1 → open_of values truths x left right other number guard ≡ []
  shut_false zero nonzero nonone untrue = absurd (nonzero refl)
  shut_false (suc zero) nonzero nonone untrue = absurd (nonone refl)
  shut_false (suc (suc guard)) nonzero nonone untrue = rw (ne_eqb 1 (get_or truths (number % 64) 0) (λ e. untrue (sym e)))

-- the open edge of a row is that of its edges which the guess opens
module _ (values truths : List ℕ) (g : Assignment) (c : Series → ℕ) (x : ℕ)
    (value : (b : ℕ) → b < c base → get_or values b 0 ≡ g.value b) (truth : (m : ℕ) → m < c boolean → eqb 1 (get_or truths m 0) ≡ g.truth m) (few : c boolean ≤ 64) where
  its_truth : (m : ℕ) → m < c boolean → eqb 1 (get_or truths (m % 64) 0) ≡ g.truth m
  its_truth m below = ap (λ (k : ℕ). eqb 1 (get_or truths k 0)) (mod-eq_of_lt {n = m} {m = 64} (omega arith)) ∙ truth m below

  open_of_lem : (left right other number guard : ℕ) → Each (EdgeWithin c) (edges_of left right other number guard)
      → open_of values truths x left right other number guard ≡ keep (λ edge. opens g x edge.guard) (edges_of left right other number guard)
  open_of_lem left right other number zero within = rw (value number within.0.2) (shut_or_not _ (eqb (g.value number) x))
  open_of_lem left right other number (suc zero) within = rw (its_truth number within.0.2) (one_or_other _ _ (g.truth number))
  open_of_lem left right other number (suc (suc guard)) within = rw (its_truth number within.0.2)

  open_rows : (rows : List ℕ) → Each (λ row. Each (EdgeWithin c) (edges_in row)) rows
      → concat_map (open_in values truths x) rows ≡ keep (λ edge. opens g x edge.guard) (concat_map edges_in rows)
  unfolding open_in edges_in
  open_rows [] within = refl
  open_rows (row ∷ rows) (here, within) =
      ap₂ ◌++◌ (open_of_lem (row % 64) (row / 64 % 64) (row / 4096 % 64) (row / 262144 % 256) (row / 67108864) here) (open_rows rows within)
      ∙ sym (keep_append (λ edge. opens g x edge.guard) (edges_in row) (concat_map edges_in rows))

module _ {query : Query} {t : Tables} (held : Holds query t) (whole : Accepted 32 query) where
  source_rows : Each (λ row. SourceWithin (count_in t.counts) (source_in row)) (take t.counts.sources t.sources)
  unfolding sources
  source_rows = go (take t.counts.sources t.sources) (part_each (SourceWithin (count_in t.counts)) as_source (take t.counts.sources t.sources) all)
    where
      all : Each (SourceWithin (count_in t.counts)) (concat_map as_source (take t.counts.sources t.sources))
      all =
          subst (Each (SourceWithin (count_in t.counts))) (sym held.sources.same)
          (each_part (SourceWithin (count_in t.counts)) source_of query.terms
          (λ term here. subst (λ (c : Series → ℕ). Each (SourceWithin c) (source_of term)) (fun_ext held.counts.given_as) (source_within (λ s. given s query.terms) term (below whole here) (own_below whole here))))

      go : (rows : List ℕ) → Each (λ row. Each (SourceWithin (count_in t.counts)) (as_source row)) rows → Each (λ row. SourceWithin (count_in t.counts) (source_in row)) rows
      go [] each = tt
      go (row ∷ rows) (one, each) = (one.0, go rows each)

  edge_rows : Each (λ row. Each (EdgeWithin (count_in t.counts)) (edges_in row)) (take t.counts.edges t.edges)
  unfolding edges
  edge_rows =
      part_each (EdgeWithin (count_in t.counts)) edges_in (take t.counts.edges t.edges)
      (subst (Each (EdgeWithin (count_in t.counts))) (sym held.edges.same)
      (each_part (EdgeWithin (count_in t.counts)) edge_of query.terms
      (λ term here. subst (λ (c : Series → ℕ). Each (EdgeWithin c) (edge_of term)) (fun_ext held.counts.given_as) (edge_within (λ s. given s query.terms) term (below whole here) (own_below whole here)))))

  pub graphed : Graphed query t
  unfolding open_edges
  graphed =
      record {
        sources = sym (each_as source_in (take t.counts.sources t.sources)) ∙ held.sources.same;
        few_sources = omega (arith, held.counts);
        within_sources = source_rows;
        opened = λ x.
            open_rows t.values t.truths (assigned query.guess) (count_in t.counts) x (value_at_lem held.values) (truth_at held.truths) held.counts.booleans_most (take t.counts.edges t.edges) edge_rows
            ∙ ap (keep (λ edge. opens (assigned query.guess) x edge.guard)) held.edges.same;
        few_edges = omega (arith, held.counts);
        within_edges = edge_rows;
        value = value_at_lem held.values;
        truth = truth_at held.truths;
        fixed = held.reads.fixed;
      }

-- the tables of bytes that are accepted
pub accepted_graph : (bytes : List ℕ) → AreBytes bytes → {query : Query} {t : Tables} → load 32 bytes ≡ Loaded.accepted query → Holds query t → Graphed query t
accepted_graph bytes are {query} is held = graphed held (accepted 32 bytes query are is)
