-- 01, Known queries: the starred ones, K1 to K11, K12 and ours, in one table with one statement, proved by computation. What a row says is
-- spelled out, number by number and byte by byte: it calls nothing that it tests. Those with fixed numbers are in Fixed.antt, and fronts in Growing.antt.
-- Assumes nothing.
use Prim.Native.Nat.{ℕ, ◌+◌, ◌^◌}
use mathlib.Core.Path.{◌≡◌, refl}
use mathlib.Core.Bool.{true, false, not}
use mathlib.Core.List.{List, [], ◌∷◌, ◌++◌, map}
use mathlib.Core.Option.{none, some}
use lib.Dec.{eqb, ltb}
use lib.IntN.{ℤ, pos, negsuc}
use lib.ListN.{replicate}
use Rattle.paper.specs.Lists.{concat_map, range}
use Rattle.paper.specs.Fields.{item_at}
use Rattle.paper.specs.Terms.{given, is_fixed, Assignment, assigned}
use Rattle.paper.specs.Load.{faults, extend, load}
use Rattle.paper.specs.Edges.{sources, Guard, Edge, edges, open_edges}
use Rattle.paper.specs.Reach.{costs, writes, step_cost, distances, reaches_at, reaches, pairs}
use Rattle.paper.specs.Conflict.{conflicts, conflict}
use Rattle.paper.specs.Lemma.{Literal, hypotheses, path, lemma, lemma_holds}
use Rattle.paper.specs.Model.{model}
use Rattle.paper.specs.Cells.{Cell}
use Rattle.paper.specs.Cells as Listing
use Rattle.paper.specs.Clauses.{named_clauses, fresh_count, clauses_of, clause_holds, assignment_of}
use Rattle.paper.specs.Reading.{read_lemma, read_run}
use Rattle.paper.specs.Answers.{check, look, list, write_clauses, written_over}
use Rattle.paper.proofs.Rows.{Answer, literals_are, bytes_are, clauses_are, value_is, truth_is, Row, ◌is◌, count, closed}
use Rattle.paper.proofs.Rows.{consistent_in, conflict_in, refused_in, consistent, conflict_of, refused, cell, no_cell, cells_in, no_cells, clauses_count, clauses_in, no_clauses, cut_at, fronts}
use Rattle.paper.proofs.Queries.{free_base, free_boolean, variable, write, conditional, read, equality, equals, differs, holds, fails, concludes, times}
use Rattle.paper.proofs.Queries.{k1, k2, k3, k4_with, k6_with, k9, k10, k11tag, k11short, k11length, k12}
use Rattle.paper.proofs.Queries.{o1, o2, o3, o4, o5, o6, o7, o8, o9, o10, o11, o12, o13, one_read, two_reads, bases_two, arrays_two}
use Rattle.paper.proofs.Queries.{o14, o15, o16, o17, o18, o19, o20, o21}
use Rattle.paper.proofs.Fixed.{fixed_lemmas, fixed_ways, fixed_refusals, fixed_values}
use Rattle.paper.proofs.Growing.{cutting, growing}

-- O10 at two bits: 5 base terms are variables 1 to 10, 2 Booleans 11 and 12, and the fresh ones 13 to 16
abbrev pub o10_literals : List Literal
o10_literals = Literal.equal 0 1 ∷ Literal.differ 0 2 ∷ Literal.is_true 0 ∷ Literal.is_false 1 ∷ Literal.conclusion 3 4 ∷ []

abbrev pub o10_clauses : List (List ℤ)
o10_clauses =
    (pos 1 ∷ pos 3 ∷ negsuc 12 ∷ [])
    ∷ (negsuc 0 ∷ negsuc 2 ∷ negsuc 12 ∷ [])
    ∷ (pos 2 ∷ pos 4 ∷ negsuc 13 ∷ [])
    ∷ (negsuc 1 ∷ negsuc 3 ∷ negsuc 13 ∷ [])
    ∷ (negsuc 0 ∷ pos 5 ∷ negsuc 14 ∷ [])
    ∷ (pos 1 ∷ negsuc 4 ∷ negsuc 14 ∷ [])
    ∷ (negsuc 1 ∷ pos 6 ∷ negsuc 14 ∷ [])
    ∷ (pos 2 ∷ negsuc 5 ∷ negsuc 14 ∷ [])
    ∷ (negsuc 6 ∷ pos 9 ∷ negsuc 15 ∷ [])
    ∷ (pos 7 ∷ negsuc 8 ∷ negsuc 15 ∷ [])
    ∷ (negsuc 7 ∷ pos 10 ∷ negsuc 15 ∷ [])
    ∷ (pos 8 ∷ negsuc 9 ∷ negsuc 15 ∷ [])
    ∷ (negsuc 10 ∷ pos 12 ∷ pos 13 ∷ pos 14 ∷ pos 15 ∷ pos 16 ∷ [])
    ∷ []

-- O10 at 32 bits: base terms 1 to 160, Booleans 161 and 162, d 163 to 194, e 195 and 196
abbrev pub o10_run : List ℤ
o10_run =
    concat_map
    (λ k. closed (pos (1 + k) ∷ pos (33 + k) ∷ negsuc (162 + k) ∷ []) ++ closed (negsuc (0 + k) ∷ negsuc (32 + k) ∷ negsuc (162 + k) ∷ []))
    (range 0 32)
    ++ concat_map
    (λ k. closed (negsuc (0 + k) ∷ pos (65 + k) ∷ negsuc 194 ∷ []) ++ closed (pos (1 + k) ∷ negsuc (64 + k) ∷ negsuc 194 ∷ []))
    (range 0 32)
    ++ concat_map
    (λ k. closed (negsuc (96 + k) ∷ pos (129 + k) ∷ negsuc 195 ∷ []) ++ closed (pos (97 + k) ∷ negsuc (128 + k) ∷ negsuc 195 ∷ []))
    (range 0 32)
    ++ closed ((negsuc 160 ∷ pos 162 ∷ []) ++ map (λ k. pos (163 + k)) (range 0 32) ++ (pos 195 ∷ pos 196 ∷ []))

-- K3 at 32 bits: base terms 1 to 96, e 97
abbrev pub k3_run : List ℤ
k3_run =
    concat_map
    (λ k. closed (negsuc (32 + k) ∷ pos (65 + k) ∷ negsuc 96 ∷ []) ++ closed (pos (33 + k) ∷ negsuc (64 + k) ∷ negsuc 96 ∷ []))
    (range 0 32)
    ++ (pos 97 ∷ pos 0 ∷ [])

-- an edge, of which only what opens it matters
abbrev pub edge_by : Guard → Edge
edge_by guard = record { left = 0; right = 1; guard = guard }

-- 01's own, K1 to K12
unfoldable pub of_the_paper : List Row
of_the_paper =
    conflict_of k1 2 (equals 0 1 ++ concludes 2 3)
    ∷ clauses_count k1 129 161 546
    ∷ consistent k2 2
    ∷ cell k2 0 5 7
    ∷ conflict_of k3 2 (concludes 1 2)
    ∷ clauses_count k3 65 97 258
    ∷ conflict_of (k4_with 2) 5 (differs 0 1 ++ concludes 3 4)
    ∷ clauses_count (k4_with 2) 129 162 515
    ∷ conflict_of (k4_with 1) 3 (equals 1 0 ++ concludes 2 3)
    ∷ clauses_count (k4_with 1) 129 193 546
    ∷ conflict_of (k6_with 0 1) 22 (differs 2 0 ++ holds 0 ++ differs 2 1 ++ concludes 6 7)
    ∷ clauses_count (k6_with 0 1) 193 324 773
    ∷ refused (k6_with 0 0) 9 110
    ∷ consistent (k6_with 1 0) 10
    ∷ cell (k6_with 1 0) 0 5 20
    ∷ cell (k6_with 1 0) 0 6 0
    ∷ cell (k6_with 1 0) 1 5 21
    ∷ cell (k6_with 1 0) 1 6 1
    ∷ cell (k6_with 1 0) 2 3 10
    ∷ cell (k6_with 1 0) 2 5 20
    ∷ cell (k6_with 1 0) 2 6 0
    ∷ cell (k6_with 1 0) 3 4 11
    ∷ cell (k6_with 1 0) 3 5 21
    ∷ cell (k6_with 1 0) 3 6 1
    ∷ cell (k6_with 1 0) 3 7 0
    ∷ no_cell (k6_with 1 0) 4 7 11 0
    ∷ conflict_of k9 5 (fails 0 ++ concludes 1 2)
    ∷ clauses_count k9 65 130 259
    ∷ consistent (k10 0) 0
    ∷ consistent (k10 48) 0
    ∷ refused (k10 49) 5 144
    ∷ refused k11tag 3 0
    ∷ refused k11short 2 0
    ∷ refused k11length 4 0
    ∷ consistent k12 2
    ∷ []

-- which lemma: the pair, the path and its literals
unfoldable pub lemmas : List Row
lemmas =
    conflict_of o1 8 (differs 0 1 ++ concludes 3 4)
    ∷ clauses_count o1 129 162 515
    ∷ conflict_of o2 6 (holds 0 ++ concludes 3 4)
    ∷ clauses_count o2 65 162 259
    ∷ conflict_of o3 9 (holds 0 ++ concludes 3 4)
    ∷ clauses_count o3 65 162 259
    ∷ conflict_of o4 9 (holds 0 ++ concludes 1 3)
    ∷ conflict_of o5 11 (differs 0 1 ++ holds 0 ++ concludes 3 4)
    ∷ conflict_of o6 4 (fails 0 ++ concludes 1 2)
    ∷ conflict_of o7 20 (holds 0 ++ holds 1 ++ concludes 4 5)
    ∷ conflict_of o8 20 (holds 0 ++ concludes 4 5)
    ∷ conflict_of o9 6 (holds 1 ++ concludes 1 2)
    ∷ conflict_of o10 11 (equals 0 1 ++ differs 0 2 ++ holds 0 ++ fails 1 ++ concludes 3 4)
    ∷ conflict_of o11 8 (holds 0 ++ concludes 1 2)
    ∷ conflict_of o12 5 (concludes 2 4)
    ∷ conflict_of (two_reads ++ equality 0 1 1 1 2) 4 (holds 0 ++ concludes 1 2)
    ∷ []

-- 02, E6: which way: the fewest write edges, among those the fewest edges, and then the lowest numbers. A walk's writes are counted each;
-- one costs more than the 47 edges that a way over 48 array terms has at most
unfoldable pub ways : List Row
ways =
    conflict_of o14 12 (holds 0 ++ holds 1 ++ concludes 3 4)
    ∷ clauses_count o14 65 195 260
    ∷ conflict_of o15 12 (holds 0 ++ holds 1 ++ concludes 3 4)
    ∷ conflict_of o16 22 (holds 0 ++ holds 1 ++ differs 0 1 ++ concludes 3 4)
    ∷ conflict_of o17 15 (differs 0 2 ++ concludes 4 5)
    ∷ conflict_of o18 10 (differs 0 1 ++ concludes 3 5)
    ∷ conflict_of o19 4 (holds 0 ++ concludes 1 2)
    ∷ conflict_of o20 24 (differs 0 1 ++ holds 1 ++ concludes 4 5)
    ∷ conflict_of o21 35 (holds 2 ++ differs 0 1 ++ holds 1 ++ concludes 4 5)
    ∷ (value_is (writes (edge_by (Guard.differ 1) ∷ edge_by (Guard.is_true 0) ∷ edge_by (Guard.differ 1) ∷ edge_by (Guard.is_false 1) ∷ [])) is value_is 2)
    ∷ (truth_is (ltb (costs step_cost (replicate 47 (edge_by (Guard.is_true 0)))) (costs step_cost (edge_by (Guard.differ 1) ∷ []))) is truth_is true)
    ∷ []

-- 2, 3, 4, 2 of a field's head and value
unfoldable pub heads : List Row
heads =
    refused (0x00 ∷ 0 ∷ 0 ∷ []) 3 0
    ∷ refused (0x09 ∷ 0 ∷ 0 ∷ []) 3 0
    ∷ refused (0xFF ∷ 0 ∷ 0 ∷ []) 3 0
    ∷ refused (0x09 ∷ 0 ∷ 1 ∷ []) 3 0
    ∷ refused (0x09 ∷ []) 2 0
    ∷ refused (0x09 ∷ 0 ∷ []) 2 0
    ∷ refused (variable ++ (0x03 ∷ 0 ∷ [])) 2 3
    ∷ refused (0x01 ∷ 0 ∷ 4 ∷ 0 ∷ 0 ∷ 0 ∷ []) 2 0
    ∷ refused (0x01 ∷ 0 ∷ 5 ∷ []) 4 0
    ∷ refused (0x03 ∷ 1 ∷ 0 ∷ []) 4 0
    ∷ refused (0x02 ∷ 0 ∷ 0 ∷ []) 4 0
    ∷ refused (0x04 ∷ 0 ∷ 8 ∷ []) 4 0
    ∷ refused (0x05 ∷ 0 ∷ 5 ∷ []) 4 0
    ∷ refused (0x06 ∷ 0 ∷ 6 ∷ []) 4 0
    ∷ refused (0x07 ∷ 0 ∷ 10 ∷ []) 4 0
    ∷ []

-- 1 and 5: each limit reached, and passed by one
unfoldable pub limits : List Row
limits =
    refused (replicate 4096 0) 3 0
    ∷ refused (replicate 4097 0) 1 0
    ∷ consistent (times 256 (free_base 0)) 0
    ∷ refused (times 257 (free_base 0)) 5 1792
    ∷ consistent (times 64 (free_boolean 0)) 0
    ∷ refused (times 65 (free_boolean 0)) 5 256
    ∷ refused (k10 48 ++ (0x04 ∷ 0 ∷ 6 ∷ 0 ∷ [])) 2 144
    ∷ refused (k10 48 ++ write 99 99 99) 5 144
    ∷ []

-- 6 to 9, in their order, and what they do not meet
unfoldable pub fields : List Row
fields =
    refused (bases_two ++ read 1 0 7) 6 17
    ∷ refused (arrays_two ++ read 0 1 7) 6 13
    ∷ refused (bases_two ++ write 1 0 0) 6 17
    ∷ refused (arrays_two ++ write 0 1 0) 6 13
    ∷ refused (arrays_two ++ write 0 0 1) 6 13
    ∷ refused (bases_two ++ write 256 0 0) 6 17
    ∷ refused (bases_two ++ conditional 0 0 0) 6 17
    ∷ refused (bases_two ++ free_boolean 1 ++ conditional 0 1 0) 6 21
    ∷ refused (bases_two ++ free_boolean 1 ++ conditional 0 0 1) 6 21
    ∷ consistent (variable ++ free_boolean 1 ++ conditional 0 0 0) 0
    ∷ refused (two_reads ++ equality 2 1 1 1 2) 6 35
    ∷ refused (two_reads ++ equality 0 2 1 1 2) 6 35
    ∷ refused (arrays_two ++ equality 0 0 1 1 0) 6 13
    ∷ refused (arrays_two ++ equality 0 0 1 0 1) 6 13
    ∷ refused (equality 0 0 2 0 0) 6 0
    ∷ refused (free_base 1 ++ variable ++ equality 0 0 2 0 0) 7 10
    ∷ refused (two_reads ++ equality 0 1 255 1 2) 7 35
    ∷ refused (free_boolean 2 ++ (0x09 ∷ [])) 7 0
    ∷ refused (free_base 1 ++ variable ++ equality 0 0 0 0 0) 8 10
    ∷ refused (two_reads ++ equality 0 1 1 2 2) 8 35
    ∷ refused (two_reads ++ equality 0 1 1 1 1) 8 35
    ∷ refused (two_reads ++ equality 0 1 1 0 2) 8 35
    ∷ refused (free_base 1 ++ free_base 1 ++ variable ++ read 0 0 7 ++ read 0 1 7 ++ equality 0 0 1 2 3) 8 39
    ∷ refused (one_read ++ equality 0 0 0 1 1) 9 21
    ∷ consistent (one_read ++ equality 0 0 1 1 1) 1
    ∷ consistent (two_reads ++ equality 0 1 0 1 2) 2
    ∷ []

-- the model, and 12, 11 of a lookup, after 1 to 9
unfoldable pub cells : List Row
cells =
    cell k12 0 4294967295 2
    ∷ cell k12 0 4294967294 0
    ∷ cell o13 0 16909060 84281096
    ∷ cell o13 0 0 0
    ∷ cell (k6_with 1 0) 0 3 0
    ∷ cell (k6_with 1 0) 0 4 0
    ∷ cell (k6_with 1 0) 2 4 0
    ∷ cell (k6_with 1 0) 3 3 0
    ∷ no_cell k1 0 5 12 0
    ∷ no_cell k1 9 5 12 0
    ∷ no_cell k1 0 (2 ^ 32) 12 0
    ∷ no_cell k2 1 5 11 0
    ∷ no_cell k2 0 (2 ^ 32) 11 0
    ∷ no_cell (k6_with 0 0) 9 (2 ^ 32) 9 110
    ∷ []

-- the cells of each array of K8, as 01 has them; by index where the sources come otherwise; and 12, 11 and 10 of a listing, after 1 to 9
abbrev pub at : (index value : ℕ) → Cell
at index value = record { index = index; value = value }

unfoldable pub listings : List Row
listings =
    cells_in (k6_with 1 0) 304 0 (at 5 20 ∷ at 6 0 ∷ [])
    ∷ cells_in (k6_with 1 0) 304 1 (at 5 21 ∷ at 6 1 ∷ [])
    ∷ cells_in (k6_with 1 0) 304 2 (at 3 10 ∷ at 5 20 ∷ at 6 0 ∷ [])
    ∷ cells_in (k6_with 1 0) 304 3 (at 4 11 ∷ at 5 21 ∷ at 6 1 ∷ [])
    ∷ cells_in (free_base 9 ++ free_base 4 ++ free_base 6 ++ variable ++ read 0 0 7 ++ read 0 1 8 ++ read 0 2 5) 304 0 (at 4 8 ∷ at 6 5 ∷ at 9 7 ∷ [])
    ∷ cells_in k2 304 0 (at 5 7 ∷ [])
    ∷ cells_in variable 0 0 []
    ∷ cells_in (k6_with 1 0) 3 2 (at 3 10 ∷ at 5 20 ∷ at 6 0 ∷ [])
    ∷ no_cells (k6_with 1 0) 2 2 10 0
    ∷ no_cells (k6_with 1 0) 0 4 11 0
    ∷ no_cells k1 0 0 12 0
    ∷ no_cells k1 304 9 12 0
    ∷ no_cells (k6_with 0 0) 304 0 9 110
    ∷ []

-- 10: what just fits, and one less, which of O14 would hold the lemma of a shortest walk; a consistent check needs no room; 12 before 10
unfoldable pub rooms : List Row
rooms =
    conflict_in k3 7 2 (concludes 1 2)
    ∷ refused_in k3 6 10 0
    ∷ refused_in k3 0 10 0
    ∷ conflict_in o14 17 12 (holds 0 ++ holds 1 ++ concludes 3 4)
    ∷ refused_in o14 16 10 0
    ∷ consistent_in k2 0 2
    ∷ refused_in (k6_with 0 0) 0 9 110
    ∷ clauses_in k3 258 65 97 k3_run
    ∷ no_clauses k3 257 10 0
    ∷ no_clauses k2 0 12 0
    ∷ no_clauses (k6_with 0 0) 0 9 110
    ∷ (bytes_are (written_over (7 ∷ 8 ∷ 9 ∷ []) (1 ∷ [])) is bytes_are (1 ∷ 8 ∷ 9 ∷ []))
    ∷ []

-- what a lemma says of values and truths
abbrev pub guessed : Assignment
guessed = assigned (record { values = 5 ∷ 5 ∷ 7 ∷ 9 ∷ []; truths = true ∷ false ∷ [] })

unfoldable pub meanings : List Row
meanings =
    (truth_is (lemma_holds guessed (Literal.equal 0 1 ∷ Literal.differ 0 2 ∷ Literal.is_true 0 ∷ Literal.is_false 1 ∷ Literal.conclusion 2 3 ∷ [])) is truth_is false)
    ∷ (truth_is (lemma_holds guessed (Literal.equal 0 1 ∷ Literal.differ 0 2 ∷ Literal.is_true 0 ∷ Literal.is_false 1 ∷ Literal.conclusion 0 1 ∷ [])) is truth_is true)
    ∷ (truth_is (lemma_holds guessed (Literal.equal 0 2 ∷ Literal.conclusion 2 3 ∷ [])) is truth_is true)
    ∷ (truth_is (lemma_holds guessed (Literal.differ 0 1 ∷ Literal.conclusion 2 3 ∷ [])) is truth_is true)
    ∷ (truth_is (lemma_holds guessed (Literal.is_true 1 ∷ Literal.conclusion 2 3 ∷ [])) is truth_is true)
    ∷ (truth_is (lemma_holds guessed (Literal.is_false 0 ∷ Literal.conclusion 2 3 ∷ [])) is truth_is true)
    ∷ []

-- the clauses, and what they say of truths: bit 0 is the lowest
unfoldable pub clauses : List Row
clauses =
    clauses_in o10 12625 193 196 o10_run
    ∷ (clauses_are (some (clauses_of 2 5 2 o10_literals)) is clauses_are (some o10_clauses))
    ∷ (truth_is (clause_holds (eqb 3) (pos 2 ∷ pos 3 ∷ [])) is truth_is true)
    ∷ (truth_is (clause_holds (λ v. not (eqb 3 v)) (negsuc 1 ∷ negsuc 2 ∷ [])) is truth_is true)
    ∷ (truth_is (clause_holds (eqb 3) (pos 2 ∷ negsuc 2 ∷ [])) is truth_is false)
    ∷ (value_is ((assignment_of 4 3 2 (eqb 5)).value 1) is value_is 1)
    ∷ (value_is ((assignment_of 4 3 2 (eqb 8)).value 1) is value_is 8)
    ∷ (value_is ((assignment_of 4 3 2 (eqb 9)).value 1) is value_is 0)
    ∷ (truth_is ((assignment_of 4 3 2 (eqb 14)).truth 1) is truth_is true)
    ∷ (truth_is ((assignment_of 4 3 2 (eqb 14)).truth 0) is truth_is false)
    ∷ []

-- what is read back off bytes and numbers, and what is no lemma and no run
unfoldable pub readings : List Row
readings =
    (literals_are (read_lemma (equals 0 1 ++ differs 0 2 ++ holds 0 ++ fails 1 ++ concludes 3 4)) is literals_are (some o10_literals))
    ∷ (literals_are (read_lemma (0x21 ∷ 0 ∷ 4 ∷ 1 ∷ 2 ∷ 3 ∷ 4 ∷ [])) is literals_are (some (Literal.equal 258 772 ∷ [])))
    ∷ (literals_are (read_lemma []) is literals_are (some []))
    ∷ (literals_are (read_lemma (0x21 ∷ 0 ∷ 4 ∷ 0 ∷ 0 ∷ 0 ∷ [])) is literals_are none)
    ∷ (literals_are (read_lemma (concludes 1 2 ++ (0 ∷ []))) is literals_are none)
    ∷ (literals_are (read_lemma (0x23 ∷ 0 ∷ 4 ∷ 0 ∷ 0 ∷ 0 ∷ 1 ∷ [])) is literals_are none)
    ∷ (literals_are (read_lemma (0x25 ∷ 0 ∷ 2 ∷ 0 ∷ 1 ∷ [])) is literals_are none)
    ∷ (literals_are (read_lemma (0x26 ∷ 0 ∷ 4 ∷ 0 ∷ 0 ∷ 0 ∷ 1 ∷ [])) is literals_are none)
    ∷ (clauses_are (read_run (concat_map closed o10_clauses)) is clauses_are (some o10_clauses))
    ∷ (clauses_are (read_run (pos 0 ∷ pos 5 ∷ pos 0 ∷ [])) is clauses_are (some ([] ∷ (pos 5 ∷ []) ∷ [])))
    ∷ (clauses_are (read_run []) is clauses_are (some []))
    ∷ (clauses_are (read_run (pos 5 ∷ pos 0 ∷ negsuc 5 ∷ [])) is clauses_are none)
    ∷ []

unfoldable pub table : List Row
table =
    of_the_paper ++ lemmas ++ ways ++ heads ++ limits ++ fields ++ cells ++ listings ++ rooms ++ meanings ++ clauses ++ readings
    ++ fixed_lemmas ++ fixed_ways ++ fixed_refusals ++ fixed_values ++ cutting ++ growing

abbrev pub answers : Row → Answer
answers (one is other) = one

abbrev pub says : Row → Answer
says (one is other) = other

pub known : map answers table ≡ map says table
unfolding item_at given faults extend load sources edges open_edges distances reaches_at reaches pairs conflicts conflict hypotheses is_fixed path lemma model named_clauses fresh_count clauses_of Listing.cells check look list write_clauses table of_the_paper lemmas ways heads limits fields cells listings rooms meanings clauses readings fixed_lemmas fixed_ways fixed_refusals fixed_values cutting growing consistent_in conflict_in refused_in clauses_count clauses_in no_clauses cell no_cell cells_in no_cells cut_at fronts count
known = refl
