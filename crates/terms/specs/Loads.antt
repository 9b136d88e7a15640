-- What loading ends in: the tables hold a query, and with the answer that is what the paper loads.
-- Assumes nothing.
use Rattle.std.specs.Prelude.{◌≡◌, ℕ, List, Result, Ok, Err}
use Rattle.paper.specs.declared.Refusal.{Refusal}
use Rattle.paper.specs.Reasons.{number_of}
use Rattle.paper.specs.Terms.{Query}
use Rattle.paper.specs.Load as Load
use Rattle.terms.specs.declared.Tables.{Tables}
use Rattle.terms.specs.Holds.{Holds}

abbrev pub loaded_as : {A : Type 0} → Result A Refusal → Query → Load.Loaded
loaded_as (Ok accepted) query = Load.accepted query
loaded_as (Err refusal) query = Load.refused (number_of refusal.reason) refusal.offset

-- the tables hold some query, on a refusal too; an accepted one is what the paper loads
pub record Loads {A : Type 0} (bytes : List ℕ) (result : Result A Refusal) (t : Tables) : Type 0 where
  pub query : Query
  pub holds : Holds query t
  pub loaded : loaded_as result query ≡ Load.load 32 bytes
