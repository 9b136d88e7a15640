-- One turn of the loader's loop: what is known at its head, and what a place of the bytes makes of it.
-- Assumes nothing.
use Prim.Native.Nat.{ℕ, ◌<◌, ◌≤◌}
use native.Mathlib.Omega.{arith}
use mathlib.Core.Path.{◌≡◌, refl, sym, ◌∙◌, subst}
use mathlib.Core.Logic.{◌≢◌}
use mathlib.Core.Bool.{false}
use mathlib.Core.List.{List, []}
use lib.ListN.{length}
use Rattle.paper.specs.Lists.{first_met}
use Rattle.paper.specs.Fields.{Series, base, boolean, array}
use Rattle.paper.specs.Terms.{given, is_fixed, Query}
use Rattle.paper.specs.Load.{faults, extend, empty, load}
use Rattle.paper.specs.Edges.{sources, edges}
use Rattle.query.specs.Standing.{standing, kind_of_field, numbers_of}
use Rattle.query.specs.Standing as Standing
use Rattle.query.specs.declared.Field.{Field}
use Rattle.terms.proofs.Steps.{Left, left_first, too_long, left_end, left_broken, left_fault, left_next}
use Rattle.faults.specs.declared.Counts.{Counts}
use Rattle.terms.specs.declared.Tables.{Tables}
use Rattle.terms.specs.Tables.{put_in, Room}
use Rattle.faults.specs.Faults.{count_in, fault_by}
use Rattle.terms.specs.Holds.{Holds}
use Rattle.std.specs.Prelude.{Ok, Err}
use Rattle.paper.specs.declared.Reason.{Reason}
use Rattle.paper.specs.declared.Reason.TheVariants.{TooLong, RunsPastEnd, UnknownTag, WrongLength, TooMany, NotGiven, WrongTruth, WrongWitness, EqualWitnesses, NoRoom, NoCell, OtherVerdict}
use Rattle.paper.specs.declared.Refusal.{Refusal}
use Rattle.paper.specs.Reasons.{number_of}
use Rattle.terms.specs.Loads.{Loads, loaded_as}
use Rattle.terms.proofs.Fits.{fit_room}
use Rattle.terms.proofs.Faulty.{fault_same}
use Rattle.terms.proofs.Next.{holds_next}

abbrev pub no_counts : Counts
no_counts = record { bases = 0; booleans = 0; arrays = 0; sources = 0; edges = 0 }

none_given : (s : Series) → given s [] ≡ count_in no_counts s
unfolding given
none_given base = refl
none_given boolean = refl
none_given array = refl

none_fixed : (b : ℕ) → is_fixed [] b ≡ false
unfolding is_fixed
none_fixed b = refl

-- counts that are all 0
pub none_counted : {c : Counts} → (c.bases ≡ 0) × ((c.booleans ≡ 0) × ((c.arrays ≡ 0) × ((c.sources ≡ 0) × (c.edges ≡ 0)))) → c ≡ no_counts
none_counted {c} zeros = go c.bases c.booleans c.arrays c.sources c.edges zeros.0 zeros.1.0 zeros.1.1.0 zeros.1.1.1.0 zeros.1.1.1.1
  where
    go : (a b c d e : ℕ) → a ≡ 0 → b ≡ 0 → c ≡ 0 → d ≡ 0 → e ≡ 0 → record { bases = a; booleans = b; arrays = c; sources = d; edges = e } ≡ no_counts
    go a b c d e p q r s t = rw (p, q, r, s, t) refl

-- the columns of the tables have their sizes
pub record Sized (t : Tables) : Type 0 where
  pub values_long : length t.values ≡ 256
  pub truths_long : length t.truths ≡ 64
  pub reads_long : length t.reads ≡ 256
  pub sources_long : length t.sources ≡ 304
  pub edges_long : length t.edges ≡ 112

-- tables of which no row is in use hold the empty query, whatever stands in them
pub none_held : {t : Tables} {c : Counts} → Sized t → c ≡ no_counts → Holds empty (record t { counts = c })
unfolding sources edges
none_held {t} {c} sized none = subst (λ (c : Counts). Holds empty (record t { counts = c })) (sym none) held
  where
    held : Holds empty (record t { counts = no_counts })
    held =
        record {
          counts = record { given_as = none_given; bases_most = omega arith; booleans_most = omega arith; arrays_most = omega arith; few_sources = omega arith; few_edges = omega arith };
          values = record { long = sized.values_long; same = refl };
          truths = record { long = sized.truths_long; same = refl };
          reads = record { long = sized.reads_long; within = λ b a below small. absurd (omega arith); past = λ b a beyond small. refl; fixed = λ b below. absurd (omega arith); fixed_past = λ b beyond. none_fixed b };
          sources = record { long = sized.sources_long; same = refl };
          edges = record { long = sized.edges_long; same = refl };
        }

-- no reason has number 0
never_none : (reason : Reason) → number_of reason ≢ 0
never_none TooLong e = omega (arith, e)
never_none RunsPastEnd e = omega (arith, e)
never_none UnknownTag e = omega (arith, e)
never_none WrongLength e = omega (arith, e)
never_none TooMany e = omega (arith, e)
never_none NotGiven e = omega (arith, e)
never_none WrongTruth e = omega (arith, e)
never_none WrongWitness e = omega (arith, e)
never_none EqualWitnesses e = omega (arith, e)
never_none NoRoom e = omega (arith, e)
never_none NoCell e = omega (arith, e)
never_none OtherVerdict e = omega (arith, e)

-- what the loop knows at its head: the tables hold the query of the fields before
pub record Head (bytes : List ℕ) (t : Tables) (at : ℕ) : Type 0 where
  pub query : Query
  pub holds : Holds query t
  pub left : Left bytes at query

pub starts : (bytes : List ℕ) (t : Tables) → length bytes ≤ 4096 → Holds empty t → Head bytes t 0
starts bytes t short held = record { query = empty; holds = held; left = left_first bytes short }

pub long_refused : {A : Type 0} (bytes : List ℕ) (t : Tables) → 4096 < length bytes → Holds empty t → Loads {A = A} bytes (Err (record { reason = TooLong; offset = 0 })) t
long_refused bytes t long held = record { query = empty; holds = held; loaded = sym (too_long bytes long) }

module _ {bytes : List ℕ} {t : Tables} {at : ℕ} (head : Head bytes t at) where
  pub at_end : {A : Type 0} (accepted : A) → standing 32 bytes at ≡ Standing.end → Loads bytes (Ok accepted) t
  at_end accepted stands = record { query = head.query; holds = head.holds; loaded = sym (left_end bytes at head.query head.left stands) }

  pub at_broken : {A : Type 0} (refusal : Refusal) → standing 32 bytes at ≡ Standing.broken refusal.offset (number_of refusal.reason) → Loads {A = A} bytes (Err refusal) t
  at_broken refusal stands =
      record { query = head.query; holds = head.holds; loaded = sym (left_broken bytes at head.query head.left refusal.offset (number_of refusal.reason) stands) }

  module _ (field : Field) (next found : ℕ) (stands : standing 32 bytes at ≡ Standing.field (kind_of_field field) (numbers_of field) next)
      (found_is : found ≡ fault_by t.reads t.values t.counts field) where
    first_is : first_met (faults head.query (kind_of_field field) (numbers_of field)) ≡ found
    first_is = sym (found_is ∙ fault_same head.query t head.holds field)

    pub at_fault : {A : Type 0} (reason : Reason) → number_of reason ≡ found → Loads {A = A} bytes (Err (record { reason = reason; offset = at })) t
    at_fault reason faulty =
        record {
          query = head.query;
          holds = head.holds;
          loaded =
              rw (faulty ∙ sym first_is)
              (sym (left_fault bytes at head.query head.left (kind_of_field field) (numbers_of field) next stands (λ none. never_none reason (faulty ∙ sym first_is ∙ none))));
        }

    module _ (faultless : found ≡ 0) where
      pub at_room : Room field t.counts
      at_room = fit_room t.reads t.values t.counts field (sym found_is ∙ faultless) head.holds.counts

      pub at_next : Head bytes (put_in field t) next × (at < next) × (next ≤ length bytes)
      at_next = go (left_next bytes at head.query head.left (kind_of_field field) (numbers_of field) next stands (first_is ∙ faultless))
        where
          go : Left bytes next (extend head.query (kind_of_field field) (numbers_of field)) × (at < next) × (next ≤ length bytes)
              → Head bytes (put_in field t) next × (at < next) × (next ≤ length bytes)
          go (left, further, inside) = (
            record { query = extend head.query (kind_of_field field) (numbers_of field); holds = holds_next head.holds field (sym found_is ∙ faultless); left = left },
            further,
            inside,
          )
