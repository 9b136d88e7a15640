-- One field more: tables that hold a query, with what the field puts into them, hold the query with that field.
-- Assumes nothing.
use Prim.Native.Nat.{ℕ, ◌+◌, ◌/◌, ◌%◌, ◌<◌}
use native.Mathlib.Omega.{arith}
use mathlib.Core.Path.{◌≡◌, refl, sym, ap, ◌∙◌, subst}
use mathlib.Core.Bool.{cond, ◌&&◌, false, and-false, and-true}
use mathlib.Core.List.{List, [], ◌∷◌, ◌++◌, map}
use mathlib.Core.Option.{none, some}
use lib.Dec.{eqb}
use borrow.Author.Tests.{ne_eqb}
use Rattle.paper.specs.Fields.{Kind, parts, gives}
use Rattle.paper.specs.Terms.{Term, term_of, Query}
use Rattle.paper.specs.Load.{each_part, as_value, as_truth, extend}
use Rattle.paper.specs.Edges.{sources, edges}
use Rattle.query.specs.Standing.{kind_of_field, numbers_of}
use Rattle.query.specs.declared.Field.{Field}
use Rattle.query.specs.declared.Field.TheVariants.{FreeBase, FreeBoolean, Variable, Write, Conditional, Read, Equality, Fixed}
use Rattle.terms.specs.declared.Tables.{Tables}
use Rattle.terms.specs.Tables.{no_read, fixed_mark, read_row, source_row, edge_row, edges_in, put_in, Room}
use Rattle.faults.specs.Faults.{count_in, fault_by}
use Rattle.terms.specs.Holds.{Holds, Column, as_source}
use Rattle.terms.proofs.Columns.{kept, pushed, sources_more, edges_more, base_more, boolean_more, array_more, no_read_more, read_more}
use Rattle.terms.proofs.Packed.{read_from, read_index_lem, source_back, edge_back}
use Rattle.terms.proofs.Fits.{Named, fit_named, fit_room}

-- the query with one field more, whose term has this number
abbrev grown : Query → (own : ℕ) → Kind → List ℕ → Query
grown query own kind numbers =
    record {
      terms = query.terms ++ (term_of kind own numbers ∷ []);
      guess =
          record {
            values = query.guess.values ++ each_part as_value (parts kind) numbers;
            truths = query.guess.truths ++ map (eqb 1) (each_part as_truth (parts kind) numbers);
          };
    }

-- a base term that is no read has what stands for one, of array 255, which no array has for its number
no_read_lem : (x own b a : ℕ) → x % 256 ≡ 255 → a < 255 → none ≡ cond (eqb own b && eqb (x % 256) a) (some (x / 256)) none
no_read_lem x own b a is small = rw (is, ne_eqb 255 a (λ e. omega arith), and-false)

-- a read is not marked as a fixed number
read_unmarked : (from index : ℕ) → from < 255 → index < 256 → eqb (read_row from index) fixed_mark ≡ false
read_unmarked from index small low =
    ne_eqb (read_row from index) fixed_mark
    (λ marked. let is : from ≡ 255 = sym (read_from from index (omega arith) low) ∙ ap (λ (x : ℕ). x % 256) marked in omega arith)

module _ {query : Query} {t : Tables} (held : Holds query t) where
  -- the sources and edges of one term more
  source_column : (term : Term) {n : ℕ} {cells : List ℕ} → Column 304 as_source n cells (sources query.terms ++ Rattle.paper.specs.Edges.source_of term)
      → Column 304 as_source n cells (sources (query.terms ++ (term ∷ [])))
  source_column term {n} {cells} column = subst (Column 304 as_source n cells) (sym (sources_more query.terms term)) column

  edge_column : (term : Term) {n : ℕ} {cells : List ℕ} → Column 112 edges_in n cells (edges query.terms ++ Rattle.paper.specs.Edges.edge_of term)
      → Column 112 edges_in n cells (edges (query.terms ++ (term ∷ [])))
  edge_column term {n} {cells} column = subst (Column 112 edges_in n cells) (sym (edges_more query.terms term)) column

  puts : (field : Field) → Named t.counts field → Room field t.counts
      → Holds (grown query (count_in t.counts (gives (kind_of_field field))) (kind_of_field field) (numbers_of field)) (put_in field t)
  puts (FreeBase value) names room =
      record {
        counts = base_more held.counts (Term.free_base t.counts.bases) refl room t.counts.sources t.counts.edges (omega (arith, held.counts)) held.counts.few_edges;
        values = pushed held.values value room refl;
        truths = kept held.truths;
        reads =
            read_more held.reads (Term.free_base t.counts.bases) room no_read (λ b a small. no_read_lem no_read t.counts.bases b a refl small)
            (λ b. sym (and-false (eqb t.counts.bases b)));
        sources = source_column (Term.free_base t.counts.bases) (kept held.sources);
        edges = edge_column (Term.free_base t.counts.bases) (kept held.edges);
      }
  puts (FreeBoolean truth) names room =
      record {
        counts = boolean_more held.counts (Term.free_boolean t.counts.booleans) refl room t.counts.sources t.counts.edges held.counts.few_sources (omega (arith, held.counts));
        values = kept held.values;
        truths = pushed held.truths truth room refl;
        reads = no_read_more held.reads (Term.free_boolean t.counts.booleans) (λ b a. refl) (λ b. refl);
        sources = source_column (Term.free_boolean t.counts.booleans) (kept held.sources);
        edges = edge_column (Term.free_boolean t.counts.booleans) (kept held.edges);
      }
  puts Variable names room =
      record {
        counts = array_more held.counts (Term.variable t.counts.arrays) refl room t.counts.sources t.counts.edges (omega (arith, held.counts)) (omega (arith, held.counts));
        values = kept held.values;
        truths = kept held.truths;
        reads = no_read_more held.reads (Term.variable t.counts.arrays) (λ b a. refl) (λ b. refl);
        sources = source_column (Term.variable t.counts.arrays) (kept held.sources);
        edges = edge_column (Term.variable t.counts.arrays) (kept held.edges);
      }
  puts (Write p) names room =
      let term = Term.write t.counts.arrays p.beneath p.index p.value in
      record {
        counts = array_more held.counts term refl room.0 (t.counts.sources + 1) (t.counts.edges + 1) (omega (arith, held.counts)) (omega (arith, held.counts));
        values = kept held.values;
        truths = kept held.truths;
        reads = no_read_more held.reads term (λ b a. refl) (λ b. refl);
        sources =
            source_column term
            (pushed held.sources (source_row t.counts.arrays p.index p.value) room.1
            (ap (λ source. source ∷ []) (source_back t.counts.arrays p.index p.value (omega (arith, held.counts, names)) (omega (arith, held.counts, names)) (omega (arith, held.counts, names)))));
        edges =
            edge_column term
            (pushed held.edges (edge_row t.counts.arrays p.beneath 0 p.index 0) room.2
            (edge_back t.counts.arrays p.beneath 0 p.index 0 (omega (arith, held.counts, names)) (omega (arith, held.counts, names)) (omega arith) (omega (arith, held.counts, names))));
      }
  puts (Conditional p) names room =
      let term = Term.conditional t.counts.arrays p.chooser p.if_true p.if_false in
      record {
        counts = array_more held.counts term refl room.0 t.counts.sources (t.counts.edges + 1) (omega (arith, held.counts)) (omega (arith, held.counts));
        values = kept held.values;
        truths = kept held.truths;
        reads = no_read_more held.reads term (λ b a. refl) (λ b. refl);
        sources = source_column term (kept held.sources);
        edges =
            edge_column term
            (pushed held.edges (edge_row t.counts.arrays p.if_true p.if_false p.chooser 1) room.1
            (edge_back t.counts.arrays p.if_true p.if_false p.chooser 1 (omega (arith, held.counts, names)) (omega (arith, held.counts, names)) (omega (arith, held.counts, names)) (omega (arith, held.counts, names))));
      }
  puts (Read p) names room =
      let term = Term.read t.counts.bases p.from p.index in
      let from_low : p.from < 256 = omega (arith, held.counts, names) in
      let index_low : p.index < 256 = omega (arith, held.counts, names) in
      record {
        counts = base_more held.counts term refl room.0 (t.counts.sources + 1) t.counts.edges (omega (arith, held.counts)) held.counts.few_edges;
        values = pushed held.values p.value room.0 refl;
        truths = kept held.truths;
        reads =
            read_more held.reads term room.0 (read_row p.from p.index)
            (λ b a small. rw (read_from p.from p.index from_low index_low, read_index_lem p.from p.index from_low index_low))
            (λ b. rw (read_unmarked p.from p.index (omega (arith, held.counts, names)) index_low) (sym (and-false (eqb t.counts.bases b))));
        sources =
            source_column term
            (pushed held.sources (source_row p.from p.index t.counts.bases) room.1
            (ap (λ source. source ∷ []) (source_back p.from p.index t.counts.bases from_low index_low room.0)));
        edges = edge_column term (kept held.edges);
      }
  puts (Equality p) names room =
      let term = Term.equality t.counts.booleans p.left p.right p.left_witness p.right_witness in
      record {
        counts = boolean_more held.counts term refl room.0 t.counts.sources (t.counts.edges + 1) held.counts.few_sources (omega (arith, held.counts));
        values = kept held.values;
        truths = pushed held.truths p.truth room.0 refl;
        reads = no_read_more held.reads term (λ b a. refl) (λ b. refl);
        sources = source_column term (kept held.sources);
        edges =
            edge_column term
            (pushed held.edges (edge_row p.left p.right 0 t.counts.booleans 2) room.1
            (edge_back p.left p.right 0 t.counts.booleans 2 (omega (arith, held.counts, names)) (omega (arith, held.counts, names)) (omega arith) (omega (arith, held.counts, room))));
      }
  puts (Fixed value) names room =
      let term = Term.fixed t.counts.bases value in
      record {
        counts = base_more held.counts term refl room t.counts.sources t.counts.edges (omega (arith, held.counts)) held.counts.few_edges;
        values = pushed held.values value room refl;
        truths = kept held.truths;
        reads =
            read_more held.reads term room fixed_mark (λ b a small. no_read_lem fixed_mark t.counts.bases b a refl small)
            (λ b. sym (and-true (eqb t.counts.bases b)));
        sources = source_column term (kept held.sources);
        edges = edge_column term (kept held.edges);
      }

  -- where the tables find no fault with it
  pub holds_next : (field : Field) → fault_by t.reads t.values t.counts field ≡ 0 → Holds (extend query (kind_of_field field) (numbers_of field)) (put_in field t)
  unfolding extend
  holds_next field faultless =
      subst (λ (own : ℕ). Holds (grown query own (kind_of_field field) (numbers_of field)) (put_in field t)) (sym (held.counts.given_as (gives (kind_of_field field))))
      (puts field (fit_named t.reads t.values t.counts field faultless) (fit_room t.reads t.values t.counts field faultless held.counts))
