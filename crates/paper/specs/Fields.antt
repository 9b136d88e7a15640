-- 01, The query: the table of fields, and the run of fields that a string of bytes is.
-- Assumes nothing.
use Rattle.std.specs.Prelude.{ℕ, zero, suc, ◌+◌, ◌/◌, not, List, [], ◌∷◌, map, eqb, ltb, length, get_or, take, drop}
use Rattle.std.proofs.Math.Option.{Option, none, some}
use Rattle.paper.specs.Lists.{is_some, sum, number, Test, ◌refuses◌, first_met}

-- "three series of term numbers, each counted from 0"
pub data Series : Type 0 where
  base boolean array : Series

-- what the bytes of a field hold, part by part
pub data Part : Type 0 where
  value truth : Part
  names : Series → Part

-- "Each field is one of these seven kinds with its own parts"; 02, E1: "New tag 08, length 4: a base term whose value is the same in every
-- interpretation"
pub data Kind : Type 0 where
  free_base free_boolean variable write conditional read equality fixed : Kind

-- the table's columns: the kind by its tag, from 00 on; the parts of its value; "gives the next"
abbrev pub kinds : List (Option Kind)
kinds =
    none
    ∷ some Kind.free_base
    ∷ some Kind.free_boolean
    ∷ some Kind.variable
    ∷ some Kind.write
    ∷ some Kind.conditional
    ∷ some Kind.read
    ∷ some Kind.equality
    ∷ some Kind.fixed
    ∷ []

abbrev pub kind_of : (tag : ℕ) → Option Kind
kind_of tag = get_or kinds tag none

abbrev pub parts : Kind → List Part
parts Kind.free_base = Part.value ∷ []
parts Kind.free_boolean = Part.truth ∷ []
parts Kind.variable = []
parts Kind.write = Part.names array ∷ Part.names base ∷ Part.names base ∷ []
parts Kind.conditional = Part.names boolean ∷ Part.names array ∷ Part.names array ∷ []
parts Kind.read = Part.names array ∷ Part.names base ∷ Part.value ∷ []
parts Kind.equality = Part.names array ∷ Part.names array ∷ Part.truth ∷ Part.names base ∷ Part.names base ∷ []
parts Kind.fixed = Part.value ∷ []

abbrev pub gives : Kind → Series
gives Kind.free_base = base
gives Kind.free_boolean = boolean
gives Kind.variable = array
gives Kind.write = array
gives Kind.conditional = array
gives Kind.read = base
gives Kind.equality = boolean
gives Kind.fixed = base

-- "Term numbers take two bytes"; a value has the width w, in bits; a truth is one byte
abbrev pub size : (w : ℕ) → Part → ℕ
size w Part.value = w / 8
size w Part.truth = 1
size w (Part.names series) = 2

-- the tag's own length
abbrev pub own_length : ℕ → Option Kind → ℕ
own_length w none = 0
own_length w (some kind) = sum (map (size w) (parts kind))

-- the numbers that a field's value holds, one for each part
abbrev pub cut : ℕ → List Part → List ℕ → List ℕ
cut w [] bytes = []
cut w (part ∷ rest) bytes = number (take (size w part) bytes) ∷ cut w rest (drop (size w part) bytes)

-- What stands at a place: a field with its parts' numbers, or a refusal
pub data Item : Type 0 where
  field : (at : ℕ) → Kind → List ℕ → Item
  broken : (at refusal : ℕ) → Item

-- a field's head: tag and length
abbrev pub tag_at : List ℕ → ℕ
tag_at bytes = get_or bytes 0 0

abbrev pub length_at : List ℕ → ℕ
length_at bytes = number (take 2 (drop 1 bytes))

-- "2 for the head, 3, 4, 2 for the value", of the bytes that are left
abbrev pub head_tests : ℕ → List ℕ → List Test
head_tests w bytes =
    let kind = kind_of (tag_at bytes) in
    (ltb (length bytes) 3 refuses 2)
    ∷ (not (is_some kind) refuses 3)
    ∷ (not (eqb (length_at bytes) (own_length w kind)) refuses 4)
    ∷ (ltb (length bytes) (3 + length_at bytes) refuses 2)
    ∷ []

abbrev pub item_of : ℕ → ℕ → Option Kind → (refusal : ℕ) → List ℕ → Item
item_of w at none refusal bytes = broken at refusal
item_of w at (some kind) zero bytes = field at kind (cut w (parts kind) (drop 3 bytes))
item_of w at (some kind) (suc refusal) bytes = broken at (suc refusal)

-- what stands at a place with these bytes left, of which there is at least one
unfoldable pub item_at : (w at : ℕ) → List ℕ → Item
item_at w at bytes = item_of w at (kind_of (tag_at bytes)) (first_met (head_tests w bytes)) bytes

-- a broken item ends the run
abbrev pub followed_by : Item → List Item → List Item
followed_by (broken at refusal) rest = broken at refusal ∷ []
followed_by (field at kind numbers) rest = field at kind numbers ∷ rest

-- "The fields are taken one after another": what stands from a place on, with these bytes left, up to the first that is broken.
-- The bound only lets the recursion end: a field takes at least 3 bytes, so that as many as there are bytes is enough.
abbrev pub items_from : (bound w at : ℕ) → List ℕ → List Item
items_from zero w at bytes = []
items_from (suc bound) w at [] = []
items_from (suc bound) w at (byte ∷ bytes) =
    let left = byte ∷ bytes in
    let next = 3 + length_at left in
    followed_by (item_at w at left) (items_from bound w (at + next) (drop next left))

abbrev pub items : ℕ → List ℕ → List Item
items w bytes = items_from (length bytes) w 0 bytes
