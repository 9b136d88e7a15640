-- The answers of the calls: number and offset of the refusal, every other number, and what is written. 01, Refusals by number:
-- "A refusal gives number and offset, every other number 0, and the answer buffer is untouched."
-- Assumes nothing.
use Rattle.std.specs.Prelude.{ℕ, ◌+◌, ◌*◌, ◌^◌, List, [], ◌∷◌, ◌++◌, leb, ltb, ℤ, length, drop}
use Rattle.std.proofs.Math.Option.{Option, none, some}
use Rattle.paper.specs.Lists.{is_some, ◌refuses◌, first_met, unless_refused}
use Rattle.paper.specs.Fields.{base, boolean, array}
use Rattle.paper.specs.Terms.{Term, given, Assignment, assigned}
use Rattle.paper.specs.Load.{Loaded, load}
use Rattle.paper.specs.Reach.{pairs}
use Rattle.paper.specs.Conflict.{Pair, conflict}
use Rattle.paper.specs.Lemma.{lemma, lemma_bytes}
use Rattle.paper.specs.Model.{model}
use Rattle.paper.specs.Cells.{Cell, cells}
use Rattle.paper.specs.Clauses.{clauses_of, fresh_count, run}

-- "An accepted call writes the first bytes or numbers of the buffer, as many as it reports; the rest stay."
abbrev pub written_over : {A : Type 0} → (buffer written : List A) → List A
written_over buffer written = written ++ drop (length written) buffer

-- What a check answers: the verdict, the refusal, the pairs, and the lemma's bytes
pub data Verdict : Type 0 where
  consistent in_conflict refused : Verdict

pub record Checked : Type 0 where
  pub verdict : Verdict
  pub refusal : ℕ
  pub offset : ℕ
  pub pairs : ℕ
  pub written : List ℕ

abbrev pub check_refused : (refusal offset : ℕ) → Checked
check_refused refusal offset = record { verdict = Verdict.refused; refusal = refusal; offset = offset; pairs = 0; written = [] }

abbrev pub check_conflict : (room : ℕ) → List Term → Assignment → Option Pair → Checked
check_conflict room terms g none =
    record { verdict = Verdict.consistent; refusal = 0; offset = 0; pairs = pairs terms g; written = [] }
check_conflict room terms g (some pair) =
    let bytes = lemma_bytes (lemma terms g pair) in
    unless_refused (first_met ((ltb room (length bytes) refuses 10) ∷ []))
    (λ refusal. check_refused refusal 0)
    (record { verdict = Verdict.in_conflict; refusal = 0; offset = 0; pairs = pairs terms g; written = bytes })

abbrev pub check_loaded : (room : ℕ) → Loaded → Checked
check_loaded room (Loaded.refused refusal at) = check_refused refusal at
check_loaded room (Loaded.accepted query) =
    let g = assigned query.guess in
    check_conflict room query.terms g (conflict query.terms g)

-- the check of a string of bytes, with room for so many bytes in the answer buffer
unfoldable pub check : (w : ℕ) → List ℕ → (room : ℕ) → Checked
check w bytes room = check_loaded room (load w bytes)

-- What a lookup answers: the refusal, and the model's value
pub record Looked : Type 0 where
  pub refusal : ℕ
  pub offset : ℕ
  pub value : ℕ

abbrev pub look_refused : (refusal offset : ℕ) → Looked
look_refused refusal offset = record { refusal = refusal; offset = offset; value = 0 }

abbrev pub look_loaded : (w a x : ℕ) → Loaded → Looked
look_loaded w a x (Loaded.refused refusal at) = look_refused refusal at
look_loaded w a x (Loaded.accepted query) =
    let terms = query.terms in
    let g = assigned query.guess in
    unless_refused
    (first_met ((is_some (conflict terms g) refuses 12) ∷ (leb (given array terms) a refuses 11) ∷ (leb (2 ^ w) x refuses 11) ∷ []))
    (λ refusal. look_refused refusal 0)
    (record { refusal = 0; offset = 0; value = model terms g a x })

-- the model's value at array a and index x
unfoldable pub look : (w : ℕ) → List ℕ → (a x : ℕ) → Looked
look w bytes a x = look_loaded w a x (load w bytes)

-- What a listing of the model's cells answers: the refusal, and the cells
pub record Listed : Type 0 where
  pub refusal : ℕ
  pub offset : ℕ
  pub listed : List Cell

abbrev pub list_refused : (refusal offset : ℕ) → Listed
list_refused refusal offset = record { refusal = refusal; offset = offset; listed = [] }

abbrev pub list_loaded : (a room : ℕ) → Loaded → Listed
list_loaded a room (Loaded.refused refusal at) = list_refused refusal at
list_loaded a room (Loaded.accepted query) =
    let terms = query.terms in
    let g = assigned query.guess in
    let listed = cells terms g a in
    unless_refused
    (first_met ((is_some (conflict terms g) refuses 12) ∷ (leb (given array terms) a refuses 11) ∷ (ltb room (length listed) refuses 10) ∷ []))
    (λ refusal. list_refused refusal 0)
    (record { refusal = 0; offset = 0; listed = listed })

-- the cells of the model at array a, in order of their indices, with room for so many
unfoldable pub list : (w : ℕ) → List ℕ → (a room : ℕ) → Listed
list w bytes a room = list_loaded a room (load w bytes)

-- What the clause writer answers: the refusal, the variables, the clauses, and the numbers
pub record Written : Type 0 where
  pub refusal : ℕ
  pub offset : ℕ
  pub variables : ℕ
  pub clauses : ℕ
  pub written : List ℤ

abbrev pub write_refused : (refusal offset : ℕ) → Written
write_refused refusal offset = record { refusal = refusal; offset = offset; variables = 0; clauses = 0; written = [] }

abbrev pub write_conflict : (w room : ℕ) → List Term → Assignment → Option Pair → Written
write_conflict w room terms g none = write_refused 12 0
write_conflict w room terms g (some pair) =
    let literals = lemma terms g pair in
    let bases = given base terms in
    let booleans = given boolean terms in
    let clauses = clauses_of w bases booleans literals in
    let numbers = run clauses in
    unless_refused (first_met ((ltb room (length numbers) refuses 10) ∷ []))
    (λ refusal. write_refused refusal 0)
    (record {
      refusal = 0;
      offset = 0;
      variables = w * bases + booleans + fresh_count w literals;
      clauses = length clauses;
      written = numbers;
    })

abbrev pub write_loaded : (w room : ℕ) → Loaded → Written
write_loaded w room (Loaded.refused refusal at) = write_refused refusal at
write_loaded w room (Loaded.accepted query) =
    let g = assigned query.guess in
    write_conflict w room query.terms g (conflict query.terms g)

-- the clauses of a string of bytes, with room for so many numbers
unfoldable pub write_clauses : (w : ℕ) → List ℕ → (room : ℕ) → Written
write_clauses w bytes room = write_loaded w room (load w bytes)
