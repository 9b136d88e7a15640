-- What is lent to the marking and to the search for a pair.
-- Assumes nothing.
use Prim.Native.Nat.{ℕ, ◌<◌, ◌≤◌}
use native.Mathlib.Omega.{arith}
use mathlib.Core.Path.{◌≡◌, sym, ap, ◌∙◌, subst}
use mathlib.Core.Bool.{Bool, false}
use mathlib.Core.List.{List}
use lib.ListN.{length, get_or, replicate, length-replicate, get_or-replicate}
use Rattle.terms.specs.declared.Tables.{Tables}
use Rattle.reach.specs.declared.marks.Mark.{Mark}
use Rattle.reach.specs.Reached.{Edges, opens_in, sources_in, rows_in, links_in, Sources, origin_at, value_at, Ends, RowOf, Marked}
use Rattle.reach.specs.Steps.{Within}
use Rattle.reach.proofs.Words.{lent_ends}
use Rattle.reach.proofs.Rows.{same_row}
use Rattle.reach.proofs.Marking.{blank, rows_length, links_length, link_read}
use Rattle.lemma.specs.Pairs.{Shared, Searchable}
use Rattle.front.specs.Fronted.{Unruled}

-- where an origin stands in the row of another source of its index value, it has the same row
shared : (e : Edges) (s : Sources) (n : ℕ) (rows : List ℕ) → Ends e n → ((k : ℕ) → k < s.count → origin_at s k < n)
    → ((k : ℕ) → k < s.count → RowOf e n (value_at s k) (origin_at s k) (get_or rows k 0)) → Shared s rows
shared e s n rows ends origin right i j i_in j_in same stands a =
    let theirs = subst (λ (x : ℕ). RowOf e n x (origin_at s j) (get_or rows j 0)) same (right j j_in) in
    theirs a ∙ sym (same_row e n (value_at s i) ends (origin_at s i) (origin_at s j) (get_or rows i 0) (origin i i_in) (right i i_in) stands a)

-- with marks and notes that were just made, of whatever size suffices
pub unruled : {t : Tables} → Within t.edges t.counts.edges (sources_in t) t.counts.arrays → (size : ℕ) → t.counts.sources ≤ size
    → Unruled t (rows_in (replicate size blank)) (links_in (replicate size blank)) (replicate size false)
unruled known size room =
    let marks = replicate size blank in
    let made = length-replicate size blank in
    record {
      unmarked =
          record {
            within = known;
            rows_long = omega (arith, rows_length marks, made);
            next_long = omega (arith, links_length marks, made);
            free = λ k below. sym (link_read marks k) ∙ ap (λ (mark : Mark). mark.next) (get_or-replicate size k blank blank (omega arith));
          };
      clear_long = omega (arith, length-replicate size false);
      unknown = λ k below. get_or-replicate size k false false (omega arith);
    }

-- what was marked can be searched
pub searchable : {t : Tables} (before after : List Mark) {clear : List Bool} {total : ℕ} → Unruled t (rows_in before) (links_in before) clear
    → Marked (opens_in t) (sources_in t) t.counts.arrays (rows_in after) (links_in after) total → length after ≡ length before
    → Searchable (sources_in t) (rows_in after) (links_in after) clear
searchable {t} before after lent marked kept =
    let within = lent.unmarked.within in
    record {
      sources = within.sources;
      origin = λ k below. omega (arith, within.origin k below, within.lent.arrays);
      linked = marked.next;
      shared = shared (opens_in t) (sources_in t) t.counts.arrays (rows_in after) (lent_ends within.lent t.values t.truths) within.origin marked.rows;
      rows_long = omega (arith, lent.unmarked.rows_long, rows_length before, rows_length after, kept);
      links_long = omega (arith, lent.unmarked.next_long, links_length before, links_length after, kept);
      clear_long = lent.clear_long;
      unknown = lent.unknown;
    }
