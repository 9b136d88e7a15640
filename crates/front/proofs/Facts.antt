-- What a ruling on the tables of an accepted query says: the paper's pairs and conflicting pair, and that the literals between its sources can be asked for.
-- Assumes nothing.
use Prim.Native.Nat.{ℕ, ◌<◌}
use native.Mathlib.Omega.{arith}
use mathlib.Core.Path.{◌≡◌, refl, sym, ap, ◌∙◌, subst}
use mathlib.Core.Bool.{Bool, true, false, cond, false≢true}
use mathlib.Core.List.Memᴰ
use mathlib.Core.List.{List, [], ◌∷◌}
use mathlib.Core.Option.{Option, none, some, none-ne-some}
use borrow.Author.Tests.{eqb-true}
use lib.Dec.{eqb}
use lib.ListN.{get_or}
use Rattle.paper.specs.Lists.{◌∈◌, map_option, or_else, find, range}
use Rattle.paper.specs.Conflict.{Pair}
use Rattle.std.specs.Prelude.{Result, Ok, Err}
use Rattle.std.proofs.lemmas.Result.{IfOk-at_ok}
use Rattle.paper.specs.declared.Refusal.{Refusal}
use Rattle.paper.specs.Reasons.{number_of}
use Rattle.terms.specs.Graph.{Graphed}
use Rattle.paper.specs.Load.{load}
use Rattle.paper.specs.Load as Load
use Rattle.meaning.proofs.Lists.{find_in, range_in}
use Rattle.meaning.proofs.Whole.{pair_of, pairs_of, lemma_of}
use Rattle.terms.specs.declared.Tables.{Tables}
use Rattle.terms.specs.Loads.{loaded_as}
use Rattle.reach.specs.Reached.{Edges, Sources, opens_in, sources_in, reached_in, bit, origin_at, value_at, assigned_at, RowOf}
use Rattle.reach.proofs.Words.{lent_ends}
use Rattle.reach.proofs.Rows.{reached_back}
use Rattle.reach.proofs.Paper.{within, pairs_paper}
use Rattle.lemma.specs.Pairs.{Numbers, clash_of, clash_in, pair_among, pair_in, found_of}
use Rattle.lemma.specs.declared.rows.Literal.{Literal}
use Rattle.lemma.specs.Rows.{literals_of}
use Rattle.lemma.specs.Between.{Ready}
use Rattle.lemma.proofs.Taken.{pair_at, pair_paper}
use Rattle.lemma.proofs.Walked.{lemma_paper}
use Rattle.front.specs.declared.Ruling.{Ruling}
use Rattle.front.specs.Fronted.{Ruled, Fronted, Judged, Paired, Made}

-- what the front says of the paper's loading
module _ {bytes : List ℕ} {t : Tables} {result : Result Ruling Refusal} (known : Fronted bytes t result) where
  same : {other : Result Ruling Refusal} → result ≡ other → load 32 bytes ≡ loaded_as other known.query
  same is = sym known.loaded ∙ ap (λ (r : Result Ruling Refusal). loaded_as r known.query) is

  pub refused : {refusal : Refusal} → result ≡ Err refusal → load 32 bytes ≡ Load.refused (number_of refusal.reason) refusal.offset
  refused is = same is

  pub judged : {ruling : Ruling} → result ≡ Ok ruling → Judged bytes t ruling
  judged is =
      let accepted = IfOk-at_ok (λ ruling. Graphed known.query t × Ruled t ruling) is known.accepted in
      record { query = known.query; loaded = same is; holds = known.holds; graph = accepted.0; ruled = accepted.1 }

-- what a pair of a list is
among_facts : (clash : ℕ → ℕ → Bool) (is : List ℕ) {numbers : Numbers} → pair_among clash is ≡ some numbers
    → (numbers.first ∈ is) × (numbers.later ∈ is) × (clash numbers.first numbers.later ≡ true)
among_facts clash [] {numbers} e = absurd (none-ne-some numbers e)
among_facts clash (i ∷ later) {numbers} e = go (find (clash i) later) refl e (λ below. among_facts clash later below)
  where
    go : (found : Option ℕ) → find (clash i) later ≡ found
        → or_else (map_option (λ j. record { first = i; later = j }) found) (pair_among clash later) ≡ some numbers
        → (pair_among clash later ≡ some numbers → (numbers.first ∈ later) × (numbers.later ∈ later) × (clash numbers.first numbers.later ≡ true))
        → (numbers.first ∈ i ∷ later) × (numbers.later ∈ i ∷ later) × (clash numbers.first numbers.later ≡ true)
    go none is e below = (Memᴰ.tail (below e).0, Memᴰ.tail (below e).1, (below e).2)
    go (some j) is e below =
        let passes = find_in (clash i) later is in
        subst (λ (n : Numbers). (n.first ∈ i ∷ later) × (n.later ∈ i ∷ later) × (clash n.first n.later ≡ true)) (taken e) (Memᴰ.head refl, Memᴰ.tail passes.0, passes.1)
      where
        taken : {one other : Numbers} → some one ≡ some other → one ≡ other
        taken {one} {other} same = cc

pair_facts : (s : Sources) (words : List ℕ) (numbers : Numbers) → pair_in s words ≡ some numbers
    → (numbers.first < s.count) × (numbers.later < s.count) × (clash_in s words numbers.first numbers.later ≡ true)
unfolding pair_in
pair_facts s words numbers e =
    let facts = among_facts (clash_in s words) (range 0 s.count) e in
    (omega (arith, (range_in 0 s.count facts.0).1), omega (arith, (range_in 0 s.count facts.1).1), facts.2)

-- a clash has the bit of the later origin
clash_bit : (s : Sources) (words : List ℕ) (i j : ℕ) → clash_in s words i j ≡ true → bit (get_or words i 0) (origin_at s j) ≡ 1
clash_bit s words i j e = index (eqb (value_at s i) (value_at s j)) e
  where
    value : (b : Bool) → cond b false (eqb (bit (get_or words i 0) (origin_at s j)) 1) ≡ true → bit (get_or words i 0) (origin_at s j) ≡ 1
    value true e = absurd (false≢true e)
    value false e = eqb-true (bit (get_or words i 0) (origin_at s j)) 1 e

    index : (b : Bool) → cond b (clash_of (assigned_at s i) (assigned_at s j) (get_or words i 0) (origin_at s j)) false ≡ true → bit (get_or words i 0) (origin_at s j) ≡ 1
    index true e = value (eqb (assigned_at s i) (assigned_at s j)) e
    index false e = absurd (false≢true e)

-- a set bit of a row is reached
bit_reached : (e : Edges) (n x origin row a : ℕ) → RowOf e n x origin row → bit row a ≡ 1 → reached_in e n x origin a ≡ true
bit_reached e n x origin row a made set_bit = go (reached_in e n x origin a) (sym (made a) ∙ set_bit)
  where
    go : (b : Bool) → ◌≡◌ {A = ℕ} (cond b 1 0) 1 → b ≡ true
    go true is = refl
    go false is = absurd (omega (arith, is))

module _ {bytes : List ℕ} {t : Tables} {ruling : Ruling} (known : Judged bytes t ruling) where
  pub pairs_are : ruling.pairs ≡ pairs_of known.query
  pairs_are = known.ruled.pairs ∙ pairs_paper known.holds known.graph

  pair_is : map_option (pair_at (sources_in t)) (found_of ruling.found) ≡ pair_of known.query
  pair_is = ap (map_option (pair_at (sources_in t))) known.ruled.found ∙ pair_paper known.holds known.graph known.ruled.words known.ruled.rows

  -- with no pair found the paper has none
  pub quiet : found_of ruling.found ≡ none → pair_of known.query ≡ none
  quiet nothing = sym pair_is ∙ ap (map_option (pair_at (sources_in t))) nothing

  -- and with one the paper has it
  module _ (numbers : Numbers) (found : found_of ruling.found ≡ some numbers) where
    pub pair : Pair
    pair = pair_at (sources_in t) numbers

    pub clash : pair_of known.query ≡ some pair
    unfolding pair
    clash = sym pair_is ∙ ap (map_option (pair_at (sources_in t))) found

    facts : (numbers.first < t.counts.sources) × (numbers.later < t.counts.sources) × (clash_in (sources_in t) known.ruled.words numbers.first numbers.later ≡ true)
    facts = pair_facts (sources_in t) known.ruled.words numbers (sym known.ruled.found ∙ found)

    ready : Ready t (get_or t.sources numbers.first 0) (get_or t.sources numbers.later 0)
    ready =
        let inside = within known.holds known.graph in
        let i = numbers.first in
        let j = numbers.later in
        let s = sources_in t in
        let there =
        bit_reached (opens_in t) t.counts.arrays (value_at s i) (origin_at s i) (get_or known.ruled.words i 0) (origin_at s j) (known.ruled.rows i facts.0) (clash_bit s known.ruled.words i j facts.2) in
        record {
          lent = inside.lent;
          origin = inside.origin i facts.0;
          later_origin = inside.origin j facts.1;
          reached = reached_back (opens_in t) t.counts.arrays (value_at s i) (lent_ends inside.lent t.values t.truths) (origin_at s i) (origin_at s j) (inside.origin i facts.0) there;
        }

    -- so that the literals between its sources can be asked for
    pub paired : Paired t numbers.first numbers.later
    paired = record { first_in = omega (arith, facts.0, known.graph.few_sources); later_in = omega (arith, facts.1, known.graph.few_sources); ready = ready }

    -- and are the paper's lemma
    pub lemma_is : (rows : List Literal) → Made t numbers rows → literals_of rows ≡ lemma_of known.query pair
    unfolding pair
    lemma_is rows made = lemma_paper known.holds known.graph numbers facts.0 facts.1 rows made
