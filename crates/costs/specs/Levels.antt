-- The words of the functions between the tables and the distances: adjacency words of writes and of other edges, and levels put over them.
-- Assumes nothing.
use Rattle.std.specs.Prelude.{ℕ, ◌+◌, ◌%◌, ◌^◌, ◌<◌, ◌≤◌, ◌≡◌, not, List, get_or}
use Rattle.std.specs.Int.Bits.{bit_or}
use Rattle.paper.specs.Sizes.{max_arrays}
use Rattle.paper.specs.Lists.{keep}
use Rattle.paper.specs.Edges.{Edge}
use Rattle.paper.specs.Reach.{is_write}
use Rattle.reach.specs.Reached.{bit}
use Rattle.reach.specs.Steps.{Adjacent}
use Rattle.costs.specs.declared.Next.{Next}

-- the edges that are writes, and the others
abbrev pub writes_of : List Edge → List Edge
writes_of edges = keep (λ edge. is_write edge.guard) edges

abbrev pub others_of : List Edge → List Edge
others_of edges = keep (λ edge. not (is_write edge.guard)) edges

-- the words of the writes, and of the others
abbrev pub Sorted : List Edge → (cheap writes : List ℕ) → Type 0
Sorted edges cheap writes = Adjacent (others_of edges) cheap × Adjacent (writes_of edges) writes

abbrev pub Narrow : List ℕ → Type 0
Narrow words = (a : ℕ) → get_or words a 0 < 2 ^ 48

-- a way over both, with its cost
pub data Route (cheap writes : List ℕ) (origin : ℕ) : (cost end : ℕ) → Type 0 where
  home : Route cheap writes origin 0 origin
  along : {cost a b : ℕ} → Route cheap writes origin cost a → bit (get_or cheap a 0) b ≡ 1 → Route cheap writes origin (cost + 1) b
  over : {cost a b : ℕ} → Route cheap writes origin cost a → bit (get_or writes a 0) b ≡ 1 → Route cheap writes origin (cost + 49) b

-- The array terms of a level have the entry, the others what they had
pub record LevelPut (level entry : ℕ) (row₀ row : List ℕ) : Type 0 where
  pub put : (a : ℕ) → bit level a ≡ 1 → get_or row a 0 ≡ entry
  pub kept : (a : ℕ) → bit level a ≡ 0 → get_or row a 0 ≡ get_or row₀ a 0

-- the neighbours of a level
pub record AheadOf (words : List ℕ) (level ahead : ℕ) : Type 0 where
  pub sound : (b : ℕ) → bit ahead b ≡ 1 → (a : ℕ) × (bit level a ≡ 1) × (bit (get_or words a 0) b ≡ 1)
  pub complete : (a b : ℕ) → bit level a ≡ 1 → bit (get_or words a 0) b ≡ 1 → bit ahead b ≡ 1
  pub small : ahead < 2 ^ 48

-- What is met next: all that is ahead, one step on, or where nothing there is new, what waits first; this joins where its distance is the next
pub record NextMet (levels distances : List ℕ) (seen ahead distance taken : ℕ) (next : Next) : Type 0 where
  pub onward : (bit_or seen ahead ≡ seen → ⊥) → next.distance ≡ distance + 1
  pub idle : bit_or seen ahead ≡ seen → next.distance ≡ get_or distances taken 0
  pub apart : (next.distance ≡ get_or distances taken 0 → ⊥) → (next.seen ≡ bit_or seen ahead) × (next.taken ≡ taken)
  pub joined : next.distance ≡ get_or distances taken 0 → (next.seen ≡ bit_or (bit_or seen ahead) (get_or levels taken 0)) × (next.taken ≡ taken + 1)

-- The least cost of a way from the origin to each array term, by its last seven bits, and 255 where there is none
pub record DistancesFrom (cheap writes : List ℕ) (origin : ℕ) (row : List ℕ) : Type 0 where
  pub none : (b : ℕ) → b < max_arrays → get_or row b 0 ≡ 255 → (cost : ℕ) → Route cheap writes origin cost b → ⊥
  pub some : (b : ℕ) → b < max_arrays → (get_or row b 0 ≡ 255 → ⊥) → (distance : ℕ) × Route cheap writes origin distance b
      × ((cost : ℕ) → Route cheap writes origin cost b → distance ≤ cost) × (get_or row b 0 ≡ distance % 128)
