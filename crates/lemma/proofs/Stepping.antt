-- A step of the path: the code's choice by its table is the paper's choice by distances.
-- Assumes nothing.
use Prim.Native.Nat.{ℕ, zero, suc, ◌+◌, ◌-◌, ◌%◌, ◌<◌, ◌≤◌}
use native.Mathlib.Nat.{sub-zero, not-suc-le-zero}
use native.Mathlib.Numerals.{add-one}
use native.Mathlib.Omega.{arith}
use mathlib.Core.Path.{◌≡◌, refl, sym, ap, ◌∙◌, subst}
use mathlib.Core.Bool.{Bool, true, false, cond, false≢true}
use mathlib.Core.List.Memᴰ
use mathlib.Core.List.{List, [], ◌∷◌, ◌++◌, map, map-append, append-nil, nil≢cons}
use mathlib.Core.Option
use mathlib.Core.Option.{Option, none, some, some-injective}
use borrow.Author.Tests.{eqb-true, eq-eqb}
use lib.Dec.{eqb}
use lib.ListN.{length, get_or, set, take, length-set, length-append, length-map}
use lib.Seq.{take-suc-set, append_snoc, length-take-le}
use Rattle.paper.specs.Lists.{◌∈◌, is_some, map_option, bind_option, keep, find, range}
use Rattle.paper.specs.Edges.{Edge}
use Rattle.paper.specs.Reach.{Joins, Walk, stay, step, across, over, near, step_cost, costs}
use Rattle.paper.specs.Lemma.{same_distance, leads_nearer, path_from}
use Rattle.meaning.proofs.Lists.{same_test, find_in, find_same, keep_in, keep_has, range_in}
use Rattle.meaning.proofs.Walks.{joins_back, Ranged}
use Rattle.meaning.proofs.Distances.{across_joins, joins_across, over_is, entry_inside, entry_least}
use Rattle.meaning.proofs.Paths.{ends_near, same_distance_is, entry_is_least, path_found}
use Rattle.meaning.proofs.Fewest.{step_most}
use Rattle.meaning.proofs.Conflicts.{step_positive}
use Rattle.reach.specs.Reached.{reached_in}
use Rattle.lemma.specs.Steps.{EdgeTable, edge_at, open_at, opened, Ends, distance_at, other_end, far_end, step_less, nearer_by, nearer_edge, DistancesOf, Walkable, PathOf}
use Rattle.lemma.proofs.Ranges.{stored_below}
use Rattle.lemma.proofs.Nearer.{stays_put}

-- the other end is an array term
pub far_end_in : (edge : Edge) (n a : ℕ) → edge.left < n → edge.right < n → a < n → far_end edge a < n
far_end_in edge n a left_in right_in_lem inside = first (eqb edge.left a)
  where
    second : (here : Bool) → Option.get_or (cond here (some edge.left) none) a < n
    second true = left_in
    second false = inside

    first : (here : Bool) → Option.get_or (cond here (some edge.right) (cond (eqb edge.right a) (some edge.left) none)) a < n
    first true = right_in_lem
    first false = second (eqb edge.right a)

other_end_in : (e : EdgeTable) (x n a k : ℕ) → Ends e x n → a < n → k < e.count → other_end e x k a < n
other_end_in e x n a k ends inside numbered = far_end_in (edge_at e x k) n a (ends.left k numbered) (ends.right k numbered) inside

pub ends_most : (e : EdgeTable) (x n : ℕ) → Ends e x n → Ends e x 48
ends_most e x n ends =
    record {
      edges = ends.edges;
      arrays = omega arith;
      left = λ k given. omega (arith, ends.left k given, ends.arrays);
      right = λ k given. omega (arith, ends.right k given, ends.arrays);
    }

-- the first of what is kept and put through f, by one test of what was there
find_kept : {A B : Type 0} (f : A → B) (kept : A → Bool) (test : B → Bool) (xs : List A)
    → find test (map f (keep kept xs)) ≡ map_option f (find (λ x. cond (kept x) (test (f x)) false) xs)
find_kept f kept test [] = refl
find_kept {A} {B} f kept test (x ∷ xs) = go (kept x) (find_kept f kept test xs)
  where
    later : Option A
    later = find (λ y. cond (kept y) (test (f y)) false) xs

    first : (passes : Bool) → cond passes (some (f x)) (map_option f later) ≡ map_option f (cond passes (some x) later)
    first true = refl
    first false = refl

    go : (here : Bool) → find test (map f (keep kept xs)) ≡ map_option f later
        → find test (map f (cond here (x ∷ keep kept xs) (keep kept xs))) ≡ map_option f (cond (cond here (test (f x)) false) (some x) later)
    go true below = ap (λ (rest : Option B). cond (test (f x)) (some (f x)) rest) below ∙ first (test (f x))
    go false below = below

both : (one other : Bool) → cond one other false ≡ true → (one ≡ true) × (other ≡ true)
both true other passes = (refl, passes)
both false other passes = absurd (false≢true passes)

-- what is chosen with its number, from the number that is chosen
choice_is : {A : Type 0} (f : ℕ → A) (choice : Option ℕ) {k : ℕ} {one : A} → map_option {B = ℕ × A} (λ i. (i, f i)) choice ≡ some (k, one) → (choice ≡ some k) × (f k ≡ one)
choice_is f none is = absurd (cc)
choice_is f (some i) is = let same = some-injective _ _ is in let number : i ≡ _ = ap (λ p. p.0) same in (ap some number, ap f (sym number) ∙ ap (λ p. p.1) same)

no_choice : {A : Type 0} (f : ℕ → A) (choice : Option ℕ) → map_option {B = ℕ × A} (λ i. (i, f i)) choice ≡ none → choice ≡ none
no_choice f none is = refl
no_choice f (some i) is = absurd (cc)

-- a walk over no edge stays where it is
no_step : {among walked : List Edge} {a c : ℕ} → Walk among a walked c → walked ≡ [] → a ≡ c
no_step stay e = refl
no_step (step first joined rest) e = absurd (nil≢cons (sym e))

module _ (e : EdgeTable) (x n goal : ℕ) where
  -- the table of distances
  abbrev pub table : List (Option ℕ)
  table = near step_cost (opened e x) n goal n

  abbrev pub path_of : (bound a : ℕ) → List Edge
  path_of bound a = path_from step_cost bound (opened e x) table a

  -- edge k is open and leads nearer, and the path goes on from its other end
  record Onward (a k : ℕ) : Type 0 where
    pub numbered : k < e.count
    pub open_to_lem : open_at e x k ≡ true
    pub rest : ℕ
    pub known : get_or table (other_end e x k a) none ≡ some rest
    pub goes_on : (bound : ℕ) → path_of (suc bound) a ≡ edge_at e x k ∷ path_of bound (other_end e x k a)

  -- on the way from an array term: the numbers of the edges walked so far, with the path from here, are the whole path
  pub record Walking (from a steps : ℕ) (walked : List ℕ) : Type 0 where
    pub distance : ℕ
    pub known : get_or table a none ≡ some distance
    pub short : steps < n
    pub brief : length (path_of n from) < n
    pub done : map (edge_at e x) (take steps walked) ++ path_of (n - steps) a ≡ path_of n from
    pub ways : Walkable e x walked steps

  pub walking_in : {from a steps : ℕ} {walked : List ℕ} → Walking from a steps walked → a < n
  walking_in way = entry_inside step_cost (opened e x) n goal n way.known

  module _ (ends : Ends e x n) where
    opened_ranged : Ranged n (opened e x)
    opened_ranged edge here =
        let from = Memᴰ.of_map (edge_at e x) (keep (open_at e x) (range 0 e.count)) here in
        let inside = (range_in 0 e.count (keep_in (open_at e x) (range 0 e.count) from.1).0).1 in
        let numbered : from.0 < e.count = omega (arith, inside) in
        subst (λ (one : Edge). (one.left < n) × (one.right < n)) from.2 (ends.left from.0 numbered, ends.right from.0 numbered)

    no_steps : (walked : List ℕ) → length walked ≡ 48 → Walkable e x walked 0
    no_steps walked room = record { whole = room; numbered = λ k below. absurd (not-suc-le-zero below); open_to_lem = λ k below. absurd (not-suc-le-zero below) }

    -- where no edge leads nearer, the path ends
    no_way : (a : ℕ) → find (leads_nearer step_cost table a) (opened e x) ≡ none → (bound : ℕ) → path_of bound a ≡ []
    no_way a nothing zero = refl
    no_way a nothing (suc bound) = rw nothing

    -- at the goal none does
    arrived : (a d : ℕ) → get_or table a none ≡ some d → a ≡ goal → (bound : ℕ) → path_of bound a ≡ []
    arrived a d known here bound = go (find (leads_nearer step_cost table a) (opened e x)) refl
      where
        go : (choice : Option Edge) → find (leads_nearer step_cost table a) (opened e x) ≡ choice → path_of bound a ≡ []
        go none nothing = no_way a nothing bound
        go (some edge) found =
            let path = path_found step_cost (opened e x) n goal opened_ranged step_positive known in
            let cheapest = path.0.least [] (subst (λ (c : ℕ). Walk (opened e x) a [] c) here stay) in
            let some_left : n ≡ suc (n - 1) = omega (arith, path.1) in
            let longer : costs step_cost (path_of n a) ≡ step_cost edge.guard + costs step_cost (path_of (n - 1) (Option.get_or (across a edge) a)) = ap (λ (m : ℕ). costs step_cost (path_of m a)) some_left ∙ rw found in
            absurd (omega (arith, path.0.total, cheapest, longer, step_positive edge.guard))

    pub walking_start : (from : ℕ) (walked : List ℕ) → length walked ≡ 48 → reached_in (opened e) n x goal from ≡ true → Walking from from 0 walked
    unfolding reached_in
    walking_start from walked room reached = go (get_or table from none) refl reached
      where
        go : (there : Option ℕ) → get_or table from none ≡ there → is_some there ≡ true → Walking from from 0 walked
        go none known reached = absurd (false≢true reached)
        go (some d) known reached =
            record {
              distance = d;
              known = known;
              short = omega (arith, entry_inside step_cost (opened e x) n goal n known);
              brief = (path_found step_cost (opened e x) n goal opened_ranged step_positive known).1;
              done = rw (sub-zero n);
              ways = no_steps walked room;
            }

    -- at the goal, what is walked is the path
    pub walking_end : (from a steps : ℕ) (walked : List ℕ) → a ≡ goal → Walking from a steps walked → PathOf e x n from goal walked steps
    walking_end from a steps walked here way =
        let last = arrived a way.distance way.known here (n - steps) in
        record {
          walked = sym (append-nil (map (edge_at e x) (take steps walked))) ∙ ap (λ (rest : List Edge). map (edge_at e x) (take steps walked) ++ rest) (sym last) ∙ way.done;
          short = omega (arith, way.short);
          ways = way.ways;
        }

    module _ (distances : List (List ℕ)) (distances_are : DistancesOf e x n distances) (goal_in : goal < n) where
      -- Two array terms that an edge joins differ in their distance by its cost at the most, so that the entries tell whether it is their difference
      entries_tell : (cost d d' : ℕ) → cost ≤ 49 → d ≤ cost + d' → d' ≤ cost + d → step_less (d' % 128) cost (d % 128) ≡ eqb (cost + d') d
      entries_tell cost d d' small one other =
          same_test (step_less (d' % 128) cost (d % 128)) (eqb (cost + d') d)
          (λ is. let same = eqb-true ((d' % 128 + cost) % 128) (d % 128) is in eq-eqb (cost + d') d (omega (arith, same)))
          (λ is. let same = eqb-true (cost + d') d is in eq-eqb ((d' % 128 + cost) % 128) (d % 128) (omega (arith, same)))

      nearer_same : (a d k : ℕ) → k ∈ range 0 e.count → open_at e x k ≡ true → a < n → get_or table a none ≡ some d
          → step_less (distance_at distances (other_end e x k a) goal) (step_cost (edge_at e x k).guard) (distance_at distances a goal) ≡ leads_nearer step_cost table a (edge_at e x k)
      nearer_same a d k listed opens inside known = rw (distances_are a goal inside goal_in, known) (go (across a (edge_at e x k)) refl)
        where
          edge : Edge
          edge = edge_at e x k

          among : edge ∈ opened e x
          among = Memᴰ.map (edge_at e x) (keep_has (open_at e x) (range 0 e.count) listed opens)

          onward : (b : ℕ) → b < n → Joins edge a b
              → step_less (distance_at distances b goal) (step_cost edge.guard) (d % 128) ≡ same_distance (map_option (λ distance. step_cost edge.guard + distance) (get_or table b none)) (some d)
          onward b within joined =
              let here = entry_is_least step_cost (opened e x) n goal opened_ranged known in
              let back = entry_least step_cost (opened e x) n goal opened_ranged within (step among (joins_back edge joined) here.way) in
              let there = entry_is_least step_cost (opened e x) n goal opened_ranged back.1 in
              let near = ends_near step_cost (opened e x) goal edge among joined here there in
              rw (distances_are b goal within goal_in, back.1) (entries_tell (step_cost edge.guard) d back.0 (step_most edge.guard) near.0 near.1)

          go : (end : Option ℕ) → across a edge ≡ end
              → step_less (distance_at distances (Option.get_or end a) goal) (step_cost edge.guard) (d % 128)
              ≡ same_distance (bind_option end (λ to. map_option (λ distance. step_cost edge.guard + distance) (get_or table to none))) (some d)
          go none joined = rw (distances_are a goal inside goal_in, known) (stays_put (d % 128) edge.guard)
          go (some b) joined =
              let within : b < n = subst (λ (end : Option ℕ). Option.get_or end a < n) joined (other_end_in e x n a k ends inside (omega (arith, (range_in 0 e.count listed).1))) in
              onward b within (across_joins edge joined)

      module _ (a d : ℕ) (known : get_or table a none ≡ some d) where
        inside : a < n
        inside = entry_inside step_cost (opened e x) n goal n known

        -- the code's choice is the paper's
        chosen_same : find (leads_nearer step_cost table a) (opened e x) ≡ map_option (edge_at e x) (find (nearer_by e distances x a goal) (range 0 e.count))
        chosen_same =
            find_kept (edge_at e x) (open_at e x) (leads_nearer step_cost table a) (range 0 e.count)
            ∙ ap (map_option (edge_at e x)) (find_same (range 0 e.count) (λ k here. either k here (open_at e x k) refl))
          where
            either : (k : ℕ) → k ∈ range 0 e.count → (opens : Bool) → open_at e x k ≡ opens
                → cond opens (leads_nearer step_cost table a (edge_at e x k)) false
                ≡ cond opens (step_less (distance_at distances (other_end e x k a) goal) (step_cost (edge_at e x k).guard) (distance_at distances a goal)) false
            either k here true is = sym (nearer_same a d k here is inside known)
            either k here false is = refl

        taken : (k : ℕ) → find (nearer_by e distances x a goal) (range 0 e.count) ≡ some k → Onward a k
        taken k found =
            let chosen = find_in (nearer_by e distances x a goal) (range 0 e.count) found in
            let passes = both (open_at e x k) (step_less (distance_at distances (other_end e x k a) goal) (step_cost (edge_at e x k).guard) (distance_at distances a goal)) chosen.1 in
            let leads = sym (nearer_same a d k chosen.0 passes.0 inside known) ∙ passes.1 in
            let same = same_distance_is (over step_cost table a (edge_at e x k)) (get_or table a none) leads in
            let (b, rest, joined, there, sums) = over_is step_cost table (edge_at e x k) same.1 in
            record {
              numbered = omega (arith, (range_in 0 e.count chosen.0).1);
              open_to_lem = passes.0;
              rest = rest;
              known = subst (λ (end : Option ℕ). get_or table (Option.get_or end a) none ≡ some rest) (sym (joins_across (edge_at e x k) joined)) there;
              goes_on = λ bound. rw (chosen_same, found);
            }

        -- where the code finds an edge, that is the next
        onward : {k : ℕ} {edge : Edge} → nearer_edge e distances x a goal ≡ some (k, edge) → (edge_at e x k ≡ edge) × Onward a k
        unfolding nearer_edge
        onward {k} {edge} found =
            let choice = choice_is (edge_at e x) (find (nearer_by e distances x a goal) (range 0 e.count)) found in
            (choice.1, taken k choice.0)

        -- and away from the goal it finds one
        some_leads : (a ≡ goal → ⊥) → nearer_edge e distances x a goal ≡ none → ⊥
        unfolding nearer_edge
        some_leads away nothing =
            let found = path_found step_cost (opened e x) n goal opened_ranged step_positive known in
            let none_leads = chosen_same ∙ ap (map_option (edge_at e x)) (no_choice (edge_at e x) (find (nearer_by e distances x a goal) (range 0 e.count)) nothing) in
            away (no_step found.0.way (no_way a none_leads n))

      -- what is walked is no longer than the path
      one_less : (steps : ℕ) (walked : List ℕ) (after : List Edge) → steps ≤ length walked → {path : List Edge} → map (edge_at e x) (take steps walked) ++ after ≡ path → length path < n → steps < n
      one_less steps walked after fits done brief =
          omega (
            arith,
            ap length done,
            length-append (map (edge_at e x) (take steps walked)) after,
            length-map (take steps walked) (edge_at e x),
            length-take-le steps walked fits,
          )

      module _ (from a steps : ℕ) (walked : List ℕ) (way : Walking from a steps walked) where
        -- away from the goal some edge leads nearer
        pub never_stuck : (a ≡ goal → ⊥) → nearer_edge e distances x a goal ≡ none → ⊥
        never_stuck away nothing = some_leads a way.distance way.known away nothing

        module _ (k : ℕ) (edge : Edge) (found : nearer_edge e distances x a goal ≡ some (k, edge)) where
          -- the edge that is found stands in the table
          pub chosen_in : k < e.count
          chosen_in = (onward a way.distance way.known found).1.numbered

          -- one step further
          pub walking_on : Walking from (far_end edge a) (steps + 1) (set walked steps k)
          walking_on = subst (λ (one : Edge). Walking from (far_end one a) (steps + 1) (set walked steps k)) chosen.0 one_on
            where
              chosen : (edge_at e x k ≡ edge) × Onward a k
              chosen = onward a way.distance way.known found

              one_on : Walking from (other_end e x k a) (steps + 1) (set walked steps k)
              one_on =
                  let next = chosen.1 in
                  let more : n - steps ≡ suc (n - (steps + 1)) = omega (arith, way.short) in
                  let fits : steps < length walked = omega (arith, way.short, way.ways.whole, ends.arrays) in
                  let before = map (edge_at e x) (take steps walked) in
                  let after = path_of (n - (steps + 1)) (other_end e x k a) in
                  let one_more : take (steps + 1) (set walked steps k) ≡ take steps walked ++ (k ∷ []) = rw (add-one steps) (take-suc-set walked steps k fits) in
                  let longer : map (edge_at e x) (take (steps + 1) (set walked steps k)) ++ after ≡ before ++ (edge_at e x k ∷ after) = rw (one_more, map-append (edge_at e x)) (append_snoc before (edge_at e x k) after) in
                  let done : map (edge_at e x) (take (steps + 1) (set walked steps k)) ++ after ≡ path_of n from =
                  longer ∙ ap (λ (rest : List Edge). before ++ rest) (sym (next.goes_on (n - (steps + 1))) ∙ ap (λ (m : ℕ). path_of m a) (sym more)) ∙ way.done in
                  record {
                    distance = next.rest;
                    known = next.known;
                    short = one_less (steps + 1) (set walked steps k) after (omega (arith, length-set walked steps k, fits)) done way.brief;
                    brief = way.brief;
                    done = done;
                    ways =
                        record {
                          whole = length-set walked steps k ∙ way.ways.whole;
                          numbered = stored_below (λ i. i < e.count) walked steps k 0 fits way.ways.numbered next.numbered;
                          open_to_lem = stored_below (λ i. open_at e x i ≡ true) walked steps k 0 fits way.ways.open_to_lem next.open_to_lem;
                        };
                  }
