-- 01, Known queries: K1 to K12 as bytes, and ours, O1 to O21; and the fields of lemmas, as 01 spells them. Nothing here calls what the table
-- tests: bytes are put in order once more. Fixed.antt has those with fixed numbers.
-- Assumes nothing.
use Prim.Native.Nat.{ℕ, ◌/◌, ◌%◌}
use mathlib.Core.List.{List, [], ◌∷◌, ◌++◌}
use lib.ListN.{replicate}
use Rattle.paper.specs.Lists.{concat_map}

-- "Numbers are big-endian"
abbrev pub two : ℕ → List ℕ
two x = x / 0x100 ∷ x % 0x100 ∷ []

abbrev pub four : ℕ → List ℕ
four x = two (x / 0x10000) ++ two (x % 0x10000)

-- The fields, as 01's table has them: a tag, a length of two bytes, and the value
abbrev pub free_base : (value : ℕ) → List ℕ
free_base value = 0x01 ∷ 0 ∷ 4 ∷ four value

abbrev pub free_boolean : (truth : ℕ) → List ℕ
free_boolean truth = 0x02 ∷ 0 ∷ 1 ∷ truth ∷ []

abbrev pub variable : List ℕ
variable = 0x03 ∷ 0 ∷ 0 ∷ []

abbrev pub write : (beneath index value : ℕ) → List ℕ
write beneath index value = (0x04 ∷ 0 ∷ 6 ∷ two beneath) ++ two index ++ two value

abbrev pub conditional : (chooser if_true if_false : ℕ) → List ℕ
conditional chooser if_true if_false = (0x05 ∷ 0 ∷ 6 ∷ two chooser) ++ two if_true ++ two if_false

abbrev pub read : (from index value : ℕ) → List ℕ
read from index value = (0x06 ∷ 0 ∷ 8 ∷ two from) ++ two index ++ four value

abbrev pub equality : (left right truth left_witness right_witness : ℕ) → List ℕ
equality left right truth left_witness right_witness =
    (0x07 ∷ 0 ∷ 9 ∷ two left) ++ two right ++ (truth ∷ two left_witness) ++ two right_witness

-- 02, E1: "New tag 08, length 4"
abbrev pub fixed : (value : ℕ) → List ℕ
fixed value = 0x08 ∷ 0 ∷ 4 ∷ four value

-- The literals, as 01 has their fields. No term number of a lemma takes more than its low byte
abbrev pub equals : (i j : ℕ) → List ℕ
equals i j = 0x21 ∷ 0x00 ∷ 0x04 ∷ 0x00 ∷ i ∷ 0x00 ∷ j ∷ []

abbrev pub differs : (i j : ℕ) → List ℕ
differs i j = 0x22 ∷ 0x00 ∷ 0x04 ∷ 0x00 ∷ i ∷ 0x00 ∷ j ∷ []

abbrev pub holds : (m : ℕ) → List ℕ
holds m = 0x23 ∷ 0x00 ∷ 0x02 ∷ 0x00 ∷ m ∷ []

abbrev pub fails : (m : ℕ) → List ℕ
fails m = 0x24 ∷ 0x00 ∷ 0x02 ∷ 0x00 ∷ m ∷ []

abbrev pub concludes : (v u : ℕ) → List ℕ
concludes v u = 0x25 ∷ 0x00 ∷ 0x04 ∷ 0x00 ∷ v ∷ 0x00 ∷ u ∷ []

-- K1, byte for byte
abbrev pub k1 : List ℕ
k1 =
    0x01 ∷ 0x00 ∷ 0x04 ∷ 0x00 ∷ 0x00 ∷ 0x00 ∷ 0x05 ∷
    0x01 ∷ 0x00 ∷ 0x04 ∷ 0x00 ∷ 0x00 ∷ 0x00 ∷ 0x05 ∷
    0x03 ∷ 0x00 ∷ 0x00 ∷
    0x06 ∷ 0x00 ∷ 0x08 ∷ 0x00 ∷ 0x00 ∷ 0x00 ∷ 0x00 ∷ 0x00 ∷ 0x00 ∷ 0x00 ∷ 0x07 ∷
    0x06 ∷ 0x00 ∷ 0x08 ∷ 0x00 ∷ 0x00 ∷ 0x00 ∷ 0x01 ∷ 0x00 ∷ 0x00 ∷ 0x00 ∷ 0x09 ∷ []

abbrev pub k2 : List ℕ
k2 = free_base 5 ++ free_base 5 ++ variable ++ read 0 0 7 ++ read 0 1 7

abbrev pub k3 : List ℕ
k3 = free_base 5 ++ variable ++ read 0 0 7 ++ read 0 0 9

-- K4 has 2 for b1, K5 has 1
abbrev pub k4_with : (b1 : ℕ) → List ℕ
k4_with b1 = free_base 1 ++ free_base b1 ++ free_base 30 ++ variable ++ write 0 1 2 ++ read 1 0 8 ++ read 0 0 9

-- K6 has 0 and 1, K7 has 0 and 0, K8 has 1 and 0
abbrev pub k6_with : (b9 truth : ℕ) → List ℕ
k6_with b9 truth =
    free_base 3 ++ free_base 4 ++ free_base 5 ++ free_base 10 ++ free_base 11 ++ free_base 6
    ++ variable ++ variable ++ write 0 0 3 ++ write 1 1 4
    ++ read 0 2 20 ++ read 1 2 21 ++ read 2 5 0 ++ read 3 5 b9
    ++ equality 2 3 truth 8 9

abbrev pub k9 : List ℕ
k9 =
    free_boolean 0 ++ free_base 1 ++ variable ++ variable ++ conditional 0 0 1
    ++ read 2 0 4 ++ read 1 0 5 ++ read 0 0 6

-- a field, so many times
abbrev pub times : ℕ → List ℕ → List ℕ
times many one = concat_map (λ (each : ℕ). one) (replicate many 0)

abbrev pub k10 : (variables : ℕ) → List ℕ
k10 variables = times variables variable

abbrev pub k11tag : List ℕ
k11tag = 0x09 ∷ 0x00 ∷ 0x00 ∷ []

abbrev pub k11short : List ℕ
k11short = 0x01 ∷ 0x00 ∷ 0x04 ∷ 0x00 ∷ 0x00 ∷ []

abbrev pub k11length : List ℕ
k11length = 0x03 ∷ 0x00 ∷ 0x05 ∷ []

abbrev pub k12 : List ℕ
k12 = free_base 0 ++ free_base 4294967295 ++ variable ++ read 0 0 1 ++ read 0 1 2

-- ours: two writes at one index, one over the other
abbrev pub two_writes : List ℕ
two_writes =
    free_base 1 ++ free_base 2 ++ free_base 30 ++ variable ++ write 0 1 2 ++ write 1 1 2

-- O1: the same literal twice on the path
abbrev pub o1 : List ℕ
o1 = two_writes ++ read 2 0 8 ++ read 0 0 9

-- O2: a write and an equality between the same arrays: the equality is taken, although its number is higher
abbrev pub o2 : List ℕ
o2 = free_base 1 ++ free_base 2 ++ free_base 30 ++ variable ++ write 0 1 2 ++ read 1 0 8 ++ read 0 0 9 ++ equality 1 0 1 3 4

-- O3: the one higher-numbered edge is the shorter way, and has no write
abbrev pub o3 : List ℕ
o3 = two_writes ++ read 2 0 8 ++ read 0 0 9 ++ equality 2 0 1 3 4

-- O4: `true 0` twice, of an equality and of a conditional on its Boolean
abbrev pub o4 : List ℕ
o4 = free_base 1 ++ variable ++ variable ++ read 0 0 7 ++ read 1 0 7 ++ equality 0 1 1 1 2 ++ conditional 0 1 0 ++ read 2 0 9

-- O5: a repeated literal, not next to its first place
abbrev pub o5 : List ℕ
o5 =
    free_base 1 ++ free_base 2 ++ free_base 30 ++ free_boolean 1 ++ variable ++ write 0 1 2 ++ conditional 0 1 1 ++ write 2 1 2
    ++ read 3 0 8 ++ read 0 0 9

-- O6: a conditional, whose branches are one array, beside an equality of higher number
abbrev pub o6 : List ℕ
o6 = free_boolean 0 ++ free_base 1 ++ variable ++ conditional 0 0 0 ++ read 1 0 8 ++ read 0 0 9 ++ equality 1 0 1 1 2

-- O7, O8: of two ways of two steps, that without a write, whether it begins with the higher edge or with the lower
abbrev pub o7 : List ℕ
o7 =
    free_base 1 ++ free_base 2 ++ free_base 30 ++ free_base 5 ++ free_boolean 1 ++ variable ++ write 0 1 2 ++ conditional 0 0 0
    ++ conditional 0 1 1 ++ read 0 0 8 ++ read 3 0 9 ++ read 3 3 0 ++ read 2 3 0 ++ equality 3 2 1 6 7

abbrev pub o8 : List ℕ
o8 =
    free_base 1 ++ free_base 2 ++ free_base 30 ++ free_base 5 ++ free_boolean 1 ++ variable ++ conditional 0 0 0 ++ write 0 1 2
    ++ conditional 0 1 1 ++ read 0 0 8 ++ read 3 0 9 ++ read 3 3 0 ++ read 2 3 0 ++ equality 3 2 1 6 7

-- O9: one true equality is shorter than two false conditionals
abbrev pub o9 : List ℕ
o9 = free_boolean 0 ++ free_base 1 ++ variable ++ conditional 0 0 0 ++ conditional 0 1 1 ++ read 2 0 8 ++ read 0 0 9 ++ equality 2 0 1 1 2

-- O10: every kind of literal in one lemma
abbrev pub o10 : List ℕ
o10 =
    free_base 1 ++ free_base 1 ++ free_base 2 ++ free_boolean 1 ++ free_boolean 0 ++ variable ++ write 0 2 2
    ++ conditional 0 1 0 ++ conditional 1 0 2 ++ read 0 0 5 ++ read 3 1 6

-- O11: two writes at one index over two arrays, taken to be equal
abbrev pub o11 : List ℕ
o11 =
    free_base 1 ++ free_base 10 ++ free_base 11 ++ variable ++ variable ++ write 0 0 1 ++ write 1 0 2
    ++ read 2 0 10 ++ read 3 0 11 ++ equality 2 3 1 3 4

-- O12: the first source conflicts with nothing; of the others the first two agree
abbrev pub o12 : List ℕ
o12 = free_base 5 ++ variable ++ variable ++ read 0 0 6 ++ read 1 0 7 ++ read 1 0 7 ++ read 1 0 9 ++ read 1 0 8

-- O13: numbers that need all of their bytes
abbrev pub o13 : List ℕ
o13 = free_base 0x01020304 ++ variable ++ read 0 0 0x05060708

-- 02, E6: O14 to O16 are on the fewest writes, O17 and O18 on the fewest edges, O19 to O21 on the lowest numbers
-- O14: the shortest walk is one write; two equalities are taken, which have none
abbrev pub o14 : List ℕ
o14 =
    free_base 1 ++ free_base 2 ++ free_base 30 ++ variable ++ variable ++ write 0 1 2
    ++ read 2 0 8 ++ read 0 0 9 ++ read 1 0 8 ++ equality 2 1 1 3 5 ++ equality 1 0 1 5 4

-- O15: a conditional and an equality for the one write
abbrev pub o15 : List ℕ
o15 =
    free_boolean 1 ++ free_base 1 ++ free_base 2 ++ free_base 30 ++ variable ++ write 0 1 2 ++ conditional 0 1 0
    ++ read 1 0 8 ++ read 0 0 9 ++ read 2 0 8 ++ equality 2 0 1 5 4

-- O16: two writes at one index, or one write and two equalities: the writes on a way count, not their literals
abbrev pub o16 : List ℕ
o16 =
    two_writes ++ variable ++ read 2 0 8 ++ read 0 0 9 ++ read 3 0 8 ++ read 1 0 8
    ++ equality 2 3 1 3 5 ++ equality 3 1 1 5 6

-- O17: two ways with one write each: the shorter is taken, although the longer begins with a lower number
abbrev pub o17 : List ℕ
o17 =
    free_base 1 ++ free_base 2 ++ free_base 3 ++ free_base 30 ++ variable ++ write 0 1 3 ++ write 0 2 3
    ++ read 0 0 8 ++ read 2 0 9 ++ read 1 0 9 ++ equality 2 1 1 5 6

-- O18: a lower-numbered equality, which leads off every such way, is not taken before the write
abbrev pub o18 : List ℕ
o18 =
    free_base 1 ++ free_base 2 ++ free_base 30 ++ variable ++ variable ++ read 0 0 8 ++ read 1 0 8 ++ equality 0 1 1 3 4
    ++ write 0 1 2 ++ read 2 0 9

-- O19: two equalities between the same arrays, of which the lower-numbered is taken
abbrev pub o19 : List ℕ
o19 = free_base 1 ++ variable ++ variable ++ read 0 0 8 ++ read 1 0 9 ++ equality 0 1 1 1 2 ++ equality 1 0 1 2 1

-- two writes over two arrays: with two equalities, of the arrays beneath and of the writes, a square
abbrev pub square : List ℕ
square = free_base 1 ++ free_base 2 ++ free_base 3 ++ free_base 30 ++ variable ++ variable ++ write 0 1 3 ++ write 1 2 3

-- O20: a write and then an equality, or an equality and then a write: the numbers decide at the first step
abbrev pub o20 : List ℕ
o20 = square ++ read 0 0 8 ++ read 3 0 9 ++ read 1 0 8 ++ read 2 0 9 ++ equality 0 1 1 4 6 ++ equality 2 3 1 7 5

-- O21: the same after a step that is the only one: the numbers decide at the second
abbrev pub o21 : List ℕ
o21 =
    square ++ variable ++ read 4 0 8 ++ read 3 0 9 ++ read 1 0 8 ++ read 2 0 9 ++ read 0 0 8
    ++ equality 0 1 1 8 6 ++ equality 2 3 1 7 5 ++ equality 4 0 1 4 8

-- one array, or two, each read at base term 0: what an equality wants
abbrev pub one_read : List ℕ
one_read = free_base 1 ++ variable ++ read 0 0 7

abbrev pub two_reads : List ℕ
two_reads = free_base 1 ++ variable ++ variable ++ read 0 0 7 ++ read 1 0 8

-- more base terms than arrays, and more arrays than base terms, so that no number stands for another series by chance
abbrev pub bases_two : List ℕ
bases_two = free_base 1 ++ free_base 1 ++ variable

abbrev pub arrays_two : List ℕ
arrays_two = free_base 1 ++ variable ++ variable
