-- The search for distances: what is seen is settled, what lies beyond it is ahead or waits, and at the end every array term that a way leads to has its
-- least distance.
-- Assumes nothing.
use Prim.Native.Nat.{ℕ, suc, ◌+◌, ◌*◌, ◌%◌, ◌^◌, ◌<◌, ◌≤◌}
use native.Mathlib.Omega.{arith}
use mathlib.Core.Path.{◌≡◌, refl, sym, ◌∙◌, subst}
use mathlib.Core.Logic.{◌⊎◌, inl, inr}
use mathlib.Core.List.{List}
use lib.Bits.{or_zero_l}
use lib.ListN.{length, get_or, set, replicate, length-set, get_or-replicate}
use lib.Pow.{pow-lt}
use Rattle.reach.specs.Reached.{bit}
use Rattle.reach.specs.Steps.{marks}
use Rattle.costs.specs.Levels.{Route, home, along, over, LevelPut, AheadOf, DistancesFrom}
use Rattle.reach.proofs.Bits.{bit_cases, bit_zero, pow_bit, pow_other}
use Rattle.reach.proofs.Spreading.{marks_more, marks_most}
use Rattle.reach.proofs.Values.{put_at}

-- settled, and at no more than a distance
abbrev pub Within : (seen : ℕ) (settled : ℕ → ℕ) (most b : ℕ) → Type 0
Within seen settled most b = (bit seen b ≡ 1) × (settled b ≤ most)

-- over a write, at a distance that waits
abbrev pub Waits : (waiting distances : List ℕ) (taken put distance b : ℕ) → Type 0
Waits waiting distances taken put distance b = (k : ℕ) × (taken ≤ k) × (k < put) × (bit (get_or waiting k 0) b ≡ 1) × (get_or distances k 0 ≡ distance)

-- What is seen is settled, the last level at the distance; what lies beyond it is settled no further off, or ahead, or waits
pub record Searching (cheap writes : List ℕ) (origin : ℕ) (row waiting distances : List ℕ) (seen ahead distance put taken : ℕ) : Type 0 where
  pub settled : ℕ → ℕ
  pub begins : Within seen settled 0 origin
  pub way : (b : ℕ) → bit seen b ≡ 1 → Route cheap writes origin (settled b) b
  pub most : (b : ℕ) → bit seen b ≡ 1 → settled b ≤ distance
  pub counted : (b : ℕ) → bit seen b ≡ 1 → get_or row b 0 ≡ settled b % 128
  pub uncounted : (b : ℕ) → b < 48 → bit seen b ≡ 0 → get_or row b 0 ≡ 255
  pub near : (a b : ℕ) → bit seen a ≡ 1 → bit (get_or cheap a 0) b ≡ 1 → Within seen settled (settled a + 1) b ⊎ ((bit ahead b ≡ 1) × (settled a ≡ distance))
  pub far : (a b : ℕ) → bit seen a ≡ 1 → bit (get_or writes a 0) b ≡ 1 → Within seen settled (settled a + 49) b ⊎ Waits waiting distances taken put (settled a + 49) b
  pub ahead_way : (b : ℕ) → bit ahead b ≡ 1 → Route cheap writes origin (distance + 1) b
  pub waiting_way : (k b : ℕ) → taken ≤ k → k < put → bit (get_or waiting k 0) b ≡ 1 → Route cheap writes origin (get_or distances k 0) b
  pub later : (k : ℕ) → taken ≤ k → k < put → distance < get_or distances k 0
  pub rising : (k l : ℕ) → k < l → l < put → get_or distances k 0 < get_or distances l 0
  pub latest : (k : ℕ) → k < put → get_or distances k 0 ≤ distance + 49
  pub left : (ahead ≡ 0) ⊎ (taken < put)
  pub order : taken ≤ put
  pub many : put ≤ marks seen
  pub bounded : distance ≤ 49 * (put + taken)
  pub seen_small : seen < 2 ^ 48
  pub ahead_small : ahead < 2 ^ 48
  pub narrow : (k : ℕ) → k < put → get_or waiting k 0 < 2 ^ 48
  pub rooms : (length row ≡ 48) × (length waiting ≡ 48) × (length distances ≡ 48)

module _ {cheap writes : List ℕ} {origin : ℕ} where
  -- at the origin
  pub search_begun : {seen : ℕ} → seen ≡ 2 ^ origin → origin < 48 → (waiting distances : List ℕ) {row : List ℕ} → length waiting ≡ 48 → length distances ≡ 48 → length row ≡ 48
      → {ahead beyond : ℕ} → LevelPut seen 0 (replicate 48 255) row → AheadOf cheap seen ahead → AheadOf writes seen beyond
      → Searching cheap writes origin row (set waiting 0 beyond) (set distances 0 49) seen ahead 0 1 0
  search_begun {seen} is inside waiting distances {row} waiting_long distances_long long {ahead} {beyond} put near far =
      record {
        settled = λ b. 0;
        begins = (rw is (pow_bit origin), omega arith);
        way = λ b there. at_home b (only b there);
        most = λ b is. omega arith;
        counted = λ b is. put.put b is;
        uncounted = λ b b_in off. put.kept b off ∙ get_or-replicate 48 b 255 0 b_in;
        near = λ a b is next. inr (near.complete a b is next, refl);
        far = λ a b is next. inr (0, omega arith, omega arith, rw (first_waits 0 refl) (far.complete a b is next), first_at 0 refl);
        ahead_way = λ b is. let found = near.sound b is in along (at_home found.0 (only found.0 found.1)) found.2;
        waiting_way = λ k b past below is.
            let found = far.sound b (rw (first_waits k (omega arith)) at is) in
            rw (first_at k (omega arith)) (over (at_home found.0 (only found.0 found.1)) found.2);
        later = λ k past below. omega (arith, first_at k (omega arith));
        rising = λ k l below inside_l. absurd (omega arith);
        latest = λ k below. omega (arith, first_at k (omega arith));
        left = inr (omega arith);
        order = omega arith;
        many = omega (arith, subst (λ (m : ℕ). marks m ≡ suc (marks 0)) (or_zero_l (2 ^ origin) ∙ sym is) (marks_more 0 origin inside (bit_zero origin)));
        bounded = omega arith;
        seen_small = rw is (pow-lt inside);
        ahead_small = near.small;
        narrow = λ k below. rw (first_waits k (omega arith)) far.small;
        rooms = (long, length-set waiting 0 beyond ∙ waiting_long, length-set distances 0 49 ∙ distances_long);
      }
    where
      only : (b : ℕ) → bit seen b ≡ 1 → b ≡ origin
      only b there = pow_other origin b (rw is at there)

      at_home : (b : ℕ) → b ≡ origin → Route cheap writes origin 0 b
      at_home b same = subst (λ (c : ℕ). Route cheap writes origin 0 c) (sym same) home

      first_waits : (k : ℕ) → k ≡ 0 → get_or (set waiting 0 beyond) k 0 ≡ beyond
      first_waits k same = put_at waiting 0 beyond k (omega arith) same

      first_at : (k : ℕ) → k ≡ 0 → get_or (set distances 0 49) k 0 ≡ 49
      first_at k same = put_at distances 0 49 k (omega arith) same

  module _ {row waiting distances : List ℕ} {seen ahead distance put taken : ℕ} (known : Searching cheap writes origin row waiting distances seen ahead distance put taken) where
    -- no more than 48 wait, and none is far off
    pub few_wait : put ≤ 48
    few_wait = omega (arith, known.many, marks_most seen)

    pub none_far : distance ≤ 4704
    none_far = omega (arith, known.bounded, known.order, few_wait)

    -- where nothing waits, all that a way leads to is settled, and no further off than the way is long
    pub search_ended : taken ≡ put → DistancesFrom cheap writes origin row
    search_ended ended =
        record {
          none = λ b b_in none cost to. off b none (reached to).0;
          some = λ b b_in counted.
              let is = on b b_in counted (bit_cases seen b) in
              (known.settled b, known.way b is, (λ cost to. (reached to).1), known.counted b is);
        }
      where
        nothing_ahead : ahead ≡ 0
        nothing_ahead = go known.left
          where
            go : (ahead ≡ 0) ⊎ (taken < put) → ahead ≡ 0
            go (inl none) = none
            go (inr some) = absurd (omega (arith, ended))

        reached : {cost b : ℕ} → Route cheap writes origin cost b → Within seen known.settled cost b
        reached home = known.begins
        reached (along {cost = cost} {a = a} {b = b} to next) = go (reached to) (known.near a b (reached to).0 next)
          where
            go : Within seen known.settled cost a → Within seen known.settled (known.settled a + 1) b ⊎ ((bit ahead b ≡ 1) × (known.settled a ≡ distance)) → Within seen known.settled (cost + 1) b
            go before (inl there) = (there.0, omega (arith, there.1, before.1))
            go before (inr still) = absurd (omega (arith, subst (λ (m : ℕ). bit m b ≡ 1) nothing_ahead still.0, bit_zero b))
        reached (over {cost = cost} {a = a} {b = b} to next) = go (reached to) (known.far a b (reached to).0 next)
          where
            go : Within seen known.settled cost a → Within seen known.settled (known.settled a + 49) b ⊎ Waits waiting distances taken put (known.settled a + 49) b → Within seen known.settled (cost + 49) b
            go before (inl there) = (there.0, omega (arith, there.1, before.1))
            go before (inr (k, past, below, on_it, at)) = absurd (omega (arith, past, below, ended))

        off : (b : ℕ) → get_or row b 0 ≡ 255 → bit seen b ≡ 1 → ⊥
        off b none is = omega (arith, known.counted b is)

        on : (b : ℕ) → b < 48 → (get_or row b 0 ≡ 255 → ⊥) → (bit seen b ≡ 0) ⊎ (bit seen b ≡ 1) → bit seen b ≡ 1
        on b b_in counted (inl unseen) = absurd (counted (known.uncounted b b_in unseen))
        on b b_in counted (inr is) = is
