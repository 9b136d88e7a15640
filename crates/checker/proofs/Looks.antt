-- What a lookup and a listing answer from the tables is the paper's answer.
-- Assumes nothing.
use Prim.Native.Nat.{ℕ, ◌^◌, ◌<◌, ◌≤◌}
use native.Mathlib.Omega.{arith}
use mathlib.Core.Path.{◌≡◌, refl, sym, ap, ◌∙◌, subst}
use mathlib.Core.Logic.{◌⊎◌, inl, inr}
use mathlib.Core.Bool.{Bool, true, false, cond}
use mathlib.Core.List.{List, map, map-map}
use mathlib.Core.Option.{none, some}
use borrow.Author.Tests.{le-leb, lt-leb, lt-ltb, le-ltb, ltb-true, ltb-false}
use lib.Dec.{ltb}
use lib.ListN.{length, length-map}
use Rattle.paper.specs.Fields.{array}
use Rattle.paper.specs.Terms.{given, assigned}
use Rattle.paper.specs.Cells.{Cell, cells}
use Rattle.paper.specs.Load.{load}
use Rattle.paper.specs.Load as Load
use Rattle.paper.specs.Answers.{look, list, written_over}
use Rattle.meaning.proofs.Called.{look_none}
use Rattle.meaning.proofs.Demands.{refused_alike}
use Rattle.meaning.proofs.Answered.{refused_numbered}
use Rattle.terms.specs.declared.Tables.{Tables}
use Rattle.reach.specs.Reached.{opens_in, sources_in}
use Rattle.lemma.specs.Pairs.{Numbers, found_of}
use Rattle.model.specs.Held.{ValueOf}
use Rattle.model.specs.declared.cells.Cell as Code
use Rattle.model.specs.Listed.{cell_in, CellsOf}
use Rattle.model.proofs.Modelled.{value_paper, cells_paper}
use Rattle.front.specs.declared.Ruling.{Ruling}
use Rattle.front.specs.Fronted.{Judged}
use Rattle.std.specs.Prelude.{Ok, Err}
use Rattle.paper.specs.declared.Refusal.{Refusal}
use Rattle.paper.specs.declared.Reason.TheVariants.{NoRoom, NoCell, OtherVerdict}
use Rattle.paper.specs.Reasons.{number_of}
use Rattle.checker.specs.Reports.{look_report_of, LookAllows, room_of, ListAllows}
use Rattle.front.proofs.Facts.{quiet, clash}

-- of a refused load
pub look_refused_lem : (bytes : List ℕ) (a x : ℕ) (refusal : Refusal) → load 32 bytes ≡ Load.refused (number_of refusal.reason) refusal.offset → LookAllows bytes a x (Err refusal)
look_refused_lem bytes a x refusal is =
    rw ((refused_alike 32 bytes (number_of refusal.reason) refusal.offset is 0 a x).1, refused_numbered 32 bytes (number_of refusal.reason) refusal.offset is)

module _ {bytes : List ℕ} {t : Tables} {ruling : Ruling} (known : Judged bytes t ruling) (a x : ℕ) where
  arrays_are : given array known.query.terms ≡ t.counts.arrays
  arrays_are = known.holds.counts.given_as array

  pub looks_clash : (numbers : Numbers) → found_of ruling.found ≡ some numbers → LookAllows bytes a x (Err (record { reason = OtherVerdict; offset = 0 }))
  unfolding look
  looks_clash numbers found = rw (known.loaded, clash known numbers found)

  module _ (nothing : found_of ruling.found ≡ none) where
    pub looks_nowhere : t.counts.arrays ≤ a → LookAllows bytes a x (Err (record { reason = NoCell; offset = 0 }))
    unfolding look
    looks_nowhere past = rw (known.loaded, quiet known nothing, arrays_are, le-leb t.counts.arrays a past)

    pub looks_past : a < t.counts.arrays → 2 ^ 32 ≤ x → LookAllows bytes a x (Err (record { reason = NoCell; offset = 0 }))
    unfolding look
    looks_past inside past = rw (known.loaded, quiet known nothing, arrays_are, lt-leb t.counts.arrays a inside, le-leb (2 ^ 32) x past)

    pub looks_up : (value : ℕ) → a < t.counts.arrays → x < 2 ^ 32 → ValueOf (opens_in t) (sources_in t) t.counts.arrays a x value → LookAllows bytes a x (Ok value)
    looks_up value inside below found =
        rw (look_none 32 bytes known.query known.loaded a x (quiet known nothing) (subst (λ (n : ℕ). a < n) (sym arrays_are) inside) below)
        (ap (λ (v : ℕ). look_report_of (Ok v)) (value_paper known.holds known.graph a inside x value found))

-- of a refused load
pub list_refused_lem : (bytes : List ℕ) (a : ℕ) (indices values : List ℕ) (refusal : Refusal) → load 32 bytes ≡ Load.refused (number_of refusal.reason) refusal.offset
    → ListAllows bytes a indices indices values values (Err refusal)
unfolding list
list_refused_lem bytes a indices values refusal is =
    rw is (record { report = rw (refused_numbered 32 bytes (number_of refusal.reason) refusal.offset is); indices_run = refl; values_run = refl })

-- the shorter of two runs
pub room_both : (indices values : List ℕ) (used : ℕ) → used ≤ length indices → used ≤ length values → used ≤ room_of indices values
room_both indices values used first second = go (ltb (length indices) (length values))
  where
    go : (b : Bool) → used ≤ cond b (length indices) (length values)
    go true = first
    go false = second

room_short : (indices values : List ℕ) (used : ℕ) → (length indices < used) ⊎ ((used ≤ length indices) × (length values < used)) → room_of indices values < used
room_short indices values used over = go (ltb (length indices) (length values)) refl over
  where
    go : (b : Bool) → ltb (length indices) (length values) ≡ b → (length indices < used) ⊎ ((used ≤ length indices) × (length values < used)) → cond b (length indices) (length values) < used
    go true is (inl first) = first
    go true is (inr second) = omega (arith, ltb-true (length indices) (length values) is, second.1)
    go false is (inl first) = omega (arith, ltb-false (length indices) (length values) is)
    go false is (inr second) = second.1

module _ {bytes : List ℕ} {t : Tables} {ruling : Ruling} (known : Judged bytes t ruling) (a : ℕ) (indices values : List ℕ) where
  pub lists_clash : (numbers : Numbers) → found_of ruling.found ≡ some numbers → ListAllows bytes a indices indices values values (Err (record { reason = OtherVerdict; offset = 0 }))
  unfolding list
  lists_clash numbers found = rw (known.loaded, clash known numbers found) (record { report = refl; indices_run = refl; values_run = refl })

  module _ (nothing : found_of ruling.found ≡ none) where
    pub lists_nowhere : t.counts.arrays ≤ a → ListAllows bytes a indices indices values values (Err (record { reason = NoCell; offset = 0 }))
    unfolding list
    lists_nowhere past =
        rw (known.loaded, quiet known nothing, known.holds.counts.given_as array, le-leb t.counts.arrays a past) (record { report = refl; indices_run = refl; values_run = refl })

    abbrev theirs : List Cell
    theirs = cells known.query.terms (assigned known.query.guess) a

    module _ (inside : a < t.counts.arrays) (own : List Code.Cell) (made : CellsOf (opens_in t) (sources_in t) t.counts.arrays a own) where
      same : map cell_in own ≡ theirs
      same = made ∙ cells_paper known.holds known.graph a inside

      many : length own ≡ length theirs
      many = sym (length-map own cell_in) ∙ ap (λ (l : List Cell). length l) same

      pub lists_short : (length indices < length own) ⊎ ((length own ≤ length indices) × (length values < length own)) → ListAllows bytes a indices indices values values (Err (record { reason = NoRoom; offset = 0 }))
      unfolding list
      lists_short over =
          rw (known.loaded, quiet known nothing, known.holds.counts.given_as array, lt-leb t.counts.arrays a inside, lt-ltb (room_of indices values) (length theirs) (omega (arith, many, room_short indices values (length own) over)))
          (record { report = refl; indices_run = refl; values_run = refl })

      pub lists_cells : (indices' values' : List ℕ) → length own ≤ length indices → length own ≤ length values
          → indices' ≡ written_over indices (map (λ (cell : Code.Cell). cell.index) own) → values' ≡ written_over values (map (λ (cell : Code.Cell). cell.value) own)
          → ListAllows bytes a indices indices' values values' (Ok (length own))
      unfolding list
      lists_cells indices' values' first second indices_are values_are =
          rw (known.loaded, quiet known nothing, known.holds.counts.given_as array, lt-leb t.counts.arrays a inside, le-ltb (room_of indices values) (length theirs) (omega (arith, many, room_both indices values (length own) first second)))
          (record {
            report = ap (λ (n : ℕ). record { refused = false; refusal = 0; offset = 0; count = n }) many;
            indices_run = indices_are ∙ ap (written_over indices) (sym (map-map (λ (cell : Cell). cell.index) cell_in own) ∙ ap (map (λ (cell : Cell). cell.index)) same);
            values_run = values_are ∙ ap (written_over values) (sym (map-map (λ (cell : Cell). cell.value) cell_in own) ∙ ap (map (λ (cell : Cell). cell.value)) same);
          })
