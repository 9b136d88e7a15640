-- 02, E1, Fixed numbers: the known queries that have some, F1 to F16, and their rows of the table; and what a fixed number says in every
-- interpretation.
-- Assumes nothing.
use Prim.Native.Nat.{ℕ, ◌+◌}
use mathlib.Core.Path.{◌≡◌, refl}
use mathlib.Core.Logic.{◌↔◌}
use mathlib.Core.Bool.{true, false}
use mathlib.Core.List.Memᴰ
use mathlib.Core.List.{List, [], ◌∷◌, ◌++◌}
use lib.IntN.{ℤ, pos, negsuc}
use Rattle.paper.specs.Lists.{concat_map, range}
use Rattle.paper.specs.Terms.{Term, is_fixed, Assignment}
use Rattle.paper.specs.Load.{Loaded, load}
use Rattle.paper.specs.Interpretations.{Memories, Means, GivesFixed}
use Rattle.paper.proofs.Rows.{loaded_as, truth_is, Row, ◌is◌, closed}
use Rattle.paper.proofs.Rows.{conflict_in, refused_in, consistent, conflict_of, refused, cell, clauses_count, clauses_in, no_clauses}
use Rattle.paper.proofs.Queries.{free_base, variable, write, read, equality, fixed, equals, differs, holds, concludes, times}

-- K1 with two index fields of any kind: F1 has both fixed and equal, F2 the left one, F3 the right one
abbrev pub k1_by : (left right : List ℕ) → List ℕ
k1_by left right = left ++ right ++ variable ++ read 0 0 7 ++ read 0 1 9

abbrev pub f1 : List ℕ
f1 = k1_by (fixed 5) (fixed 5)

abbrev pub f2 : List ℕ
f2 = k1_by (fixed 5) (free_base 5)

abbrev pub f3 : List ℕ
f3 = k1_by (free_base 5) (fixed 5)

-- F4: the other index is a read, of the fixed number's value
abbrev pub f4 : List ℕ
f4 = fixed 5 ++ variable ++ read 0 0 5 ++ read 0 1 7

-- F5: K2 with both indices fixed
abbrev pub f5 : List ℕ
f5 = fixed 5 ++ fixed 5 ++ variable ++ read 0 0 7 ++ read 0 1 7

-- K4 with two index fields of any kind: F6 has both fixed, F7 the read's, F8 the write's
abbrev pub k4_by : (one other : List ℕ) → List ℕ
k4_by one other = one ++ other ++ free_base 30 ++ variable ++ write 0 1 2 ++ read 1 0 8 ++ read 0 0 9

abbrev pub f6 : List ℕ
f6 = k4_by (fixed 1) (fixed 2)

abbrev pub f7 : List ℕ
f7 = k4_by (fixed 1) (free_base 2)

abbrev pub f8 : List ℕ
f8 = k4_by (free_base 1) (fixed 2)

-- F9: two writes of different fixed values at one fixed index, taken to be equal
abbrev pub f9 : List ℕ
f9 = fixed 1 ++ fixed 10 ++ fixed 11 ++ variable ++ write 0 0 1 ++ write 0 0 2 ++ read 1 0 10 ++ read 2 0 11 ++ equality 1 2 1 3 4

-- F10: two writes on the path, of which nothing stays
abbrev pub f10 : List ℕ
f10 = fixed 1 ++ fixed 2 ++ fixed 3 ++ free_base 30 ++ variable ++ write 0 1 3 ++ write 1 2 3 ++ read 2 0 8 ++ read 0 0 9

-- F11: a literal that is left out between two that are one
abbrev pub f11 : List ℕ
f11 =
    fixed 1 ++ fixed 2 ++ free_base 3 ++ free_base 30 ++ variable ++ write 0 2 3 ++ write 1 1 3 ++ write 2 2 3
    ++ read 3 0 8 ++ read 0 0 9

-- F12 is O2 and F13 is O14, with fixed indices: the write's literal would be left out, and yet it is a write
abbrev pub f12 : List ℕ
f12 = fixed 1 ++ fixed 2 ++ free_base 30 ++ variable ++ write 0 1 2 ++ read 1 0 8 ++ read 0 0 9 ++ equality 1 0 1 3 4

abbrev pub f13 : List ℕ
f13 =
    fixed 1 ++ fixed 2 ++ free_base 30 ++ variable ++ variable ++ write 0 1 2
    ++ read 2 0 8 ++ read 0 0 9 ++ read 1 0 8 ++ equality 2 1 1 3 5 ++ equality 1 0 1 5 4

-- F14 is K6 with its three indices fixed: both writes' literals are left out, and the equality's stays
abbrev pub f14 : List ℕ
f14 =
    fixed 3 ++ fixed 4 ++ fixed 5 ++ free_base 10 ++ free_base 11 ++ free_base 6
    ++ variable ++ variable ++ write 0 0 3 ++ write 1 1 4
    ++ read 0 2 20 ++ read 1 2 21 ++ read 2 5 0 ++ read 3 5 1
    ++ equality 2 3 1 8 9

-- F15: a fixed number beside a read, which an equality may name
abbrev pub f15 : List ℕ
f15 = fixed 1 ++ variable ++ read 0 0 5

-- F16: numbers that need all of their bytes, as an index and as a value
abbrev pub f16 : List ℕ
f16 = fixed 0x01020304 ++ fixed 0x05060708 ++ variable ++ write 0 0 1

-- F1 at 32 bits: base terms 1 to 128, e 129
abbrev pub f1_run : List ℤ
f1_run =
    concat_map
    (λ k. closed (negsuc (64 + k) ∷ pos (97 + k) ∷ negsuc 128 ∷ []) ++ closed (pos (65 + k) ∷ negsuc (96 + k) ∷ negsuc 128 ∷ []))
    (range 0 32)
    ++ (pos 129 ∷ pos 0 ∷ [])

-- which literals stay: not those between two fixed numbers, and a conclusion always
unfoldable pub fixed_lemmas : List Row
fixed_lemmas =
    conflict_of f1 2 (concludes 2 3)
    ∷ clauses_count f1 65 129 258
    ∷ conflict_of f2 2 (equals 0 1 ++ concludes 2 3)
    ∷ clauses_count f2 129 161 546
    ∷ conflict_of f3 2 (equals 0 1 ++ concludes 2 3)
    ∷ clauses_count f3 129 161 546
    ∷ conflict_of f4 2 (equals 0 1 ++ concludes 1 2)
    ∷ consistent f5 2
    ∷ cell f5 0 5 7
    ∷ conflict_of f6 5 (concludes 3 4)
    ∷ clauses_count f6 65 161 258
    ∷ conflict_of f7 5 (differs 0 1 ++ concludes 3 4)
    ∷ clauses_count f7 129 162 515
    ∷ conflict_of f8 5 (differs 0 1 ++ concludes 3 4)
    ∷ clauses_count f8 129 162 515
    ∷ conflict_of f9 8 (holds 0 ++ concludes 1 2)
    ∷ clauses_count f9 65 162 259
    ∷ conflict_of f10 9 (concludes 4 5)
    ∷ clauses_count f10 65 193 258
    ∷ conflict_of f11 13 (differs 0 2 ++ concludes 4 5)
    ∷ conflict_of f14 22 (holds 0 ++ concludes 6 7)
    ∷ clauses_count f14 65 322 259
    ∷ []

-- 02, E6: which way: a write whose literal is left out counts as a write all the same
unfoldable pub fixed_ways : List Row
fixed_ways =
    conflict_of f12 6 (holds 0 ++ concludes 3 4)
    ∷ conflict_of f13 12 (holds 0 ++ holds 1 ++ concludes 3 4)
    ∷ clauses_count f13 65 195 260
    ∷ []

-- "Refusals: those of tag 01": 2, 3, 4, 2 and 5; it gives a base term that others can name, and is no read: 8
unfoldable pub fixed_refusals : List Row
fixed_refusals =
    refused (0x08 ∷ []) 2 0
    ∷ refused (0x08 ∷ 0 ∷ []) 2 0
    ∷ refused (fixed 5 ++ (0x08 ∷ 0 ∷ [])) 2 7
    ∷ refused (fixed 5 ++ (0x09 ∷ 0 ∷ 4 ∷ 0 ∷ 0 ∷ 0 ∷ 5 ∷ [])) 3 7
    ∷ refused (0x08 ∷ 0 ∷ 3 ∷ 0 ∷ 0 ∷ 5 ∷ []) 4 0
    ∷ refused (0x08 ∷ 0 ∷ 5 ∷ 0 ∷ 0 ∷ 0 ∷ 0 ∷ 5 ∷ []) 4 0
    ∷ refused (0x08 ∷ 1 ∷ 4 ∷ 0 ∷ 0 ∷ 0 ∷ 5 ∷ []) 4 0
    ∷ refused (0x08 ∷ 0 ∷ 5 ∷ []) 4 0
    ∷ refused (0x08 ∷ 0 ∷ 4 ∷ []) 2 0
    ∷ refused (0x08 ∷ 0 ∷ 4 ∷ 0 ∷ 0 ∷ 0 ∷ []) 2 0
    ∷ consistent (times 255 (free_base 0) ++ fixed 0) 0
    ∷ refused (times 255 (free_base 0) ++ fixed 0 ++ fixed 0) 5 1792
    ∷ refused (times 256 (free_base 0) ++ (0x08 ∷ 0 ∷ 4 ∷ 0 ∷ 0 ∷ 0 ∷ [])) 2 1792
    ∷ refused (fixed 1 ++ variable ++ read 0 1 7) 6 10
    ∷ refused (f15 ++ equality 0 0 1 0 1) 8 21
    ∷ refused (f15 ++ equality 0 0 1 1 0) 8 21
    ∷ refused (f15 ++ equality 0 0 1 0 0) 8 21
    ∷ consistent (f15 ++ equality 0 0 1 1 1) 1
    ∷ []

-- the lemma and the clauses that are left just fit, with one less there is 10; the value, all four bytes of it, is the term's and the guess's;
-- and which base terms are fixed
unfoldable pub fixed_values : List Row
fixed_values =
    conflict_in f1 7 2 (concludes 2 3)
    ∷ refused_in f1 6 10 0
    ∷ refused_in f2 13 10 0
    ∷ clauses_in f1 258 65 129 f1_run
    ∷ no_clauses f1 257 10 0
    ∷ cell f16 1 16909060 84281096
    ∷ cell f16 1 4 0
    ∷ (loaded_as (load 32 (fixed 5 ++ free_base 6 ++ fixed 7))
    is loaded_as (Loaded.accepted (record { terms = Term.fixed 0 5 ∷ Term.free_base 1 ∷ Term.fixed 2 7 ∷ []; guess = record { values = 5 ∷ 6 ∷ 7 ∷ []; truths = [] } })))
    ∷ (truth_is (is_fixed (Term.fixed 0 5 ∷ Term.free_base 1 ∷ Term.fixed 2 7 ∷ []) 2) is truth_is true)
    ∷ (truth_is (is_fixed (Term.fixed 0 5 ∷ Term.free_base 1 ∷ Term.fixed 2 7 ∷ []) 1) is truth_is false)
    ∷ (truth_is (is_fixed (Term.fixed 0 5 ∷ Term.read 1 0 0 ∷ []) 5) is truth_is false)
    ∷ []

-- "a base term whose value is the same in every interpretation", and at every assignment that demand 3 is about
pub fixed_means : (g : Assignment) (memory : Memories) → Means 32 g memory (Term.fixed 3 5) ↔ (g.value 3 ≡ 5)
fixed_means g memory = ((λ means. means), λ means. means)

pub fixed_gives : (g : Assignment) → GivesFixed (Term.free_base 0 ∷ Term.fixed 1 5 ∷ []) g → g.value 1 ≡ 5
fixed_gives g gives = gives 1 5 (Memᴰ.tail (Memᴰ.head refl))
