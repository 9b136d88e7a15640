-- A turn of the search: what is met at the next distance, and how it is settled there.
-- Assumes nothing.
use Prim.Native.Nat.{ℕ, ◌+◌, ◌%◌, ◌^◌, ◌<◌, ◌≤◌}
use native.Mathlib.Decide.{ℕ_discrete}
use native.Mathlib.Omega.{arith}
use mathlib.Core.Path.{◌≡◌, refl, sym, ap, ◌∙◌, subst}
use mathlib.Core.Logic.{◌⊎◌, inl, inr}
use mathlib.Core.Bool.{Bool, cond}
use mathlib.Core.List.{List}
use borrow.Author.Tests.{eq-eqb, ne_eqb}
use lib.Bits.{bit_or, bit_xor, or_lt, xor_lt, xor_self}
use lib.Count.{count_trailing_zeros}
use lib.ListN.{length, get_or, set, length-set}
use lib.Pow.{pow_pos}
use Rattle.reach.specs.Reached.{bit}
use Rattle.reach.specs.Steps.{has, marks}
use Rattle.costs.specs.Levels.{Route, along, over, LevelPut, AheadOf, NextMet}
use Rattle.costs.specs.declared.Next.{Next}
use Rattle.reach.proofs.Bits.{bit_cases, bit_zero, bit_below, or_left, or_right, or_either, pow_other, xor_bit, xor_has, xor_some, trailing_bit}
use Rattle.reach.proofs.Spreading.{marks_more, marks_within, marks_most}
use Rattle.reach.proofs.Values.{put_at, put_else}
use Rattle.costs.proofs.Settling.{Within, Waits, Searching}

-- nothing is new where the level is empty, and only there
pub none_new : {met seen : ℕ} → bit_xor met seen ≡ 0 → met ≡ seen
none_new {met} {seen} empty = go (ℕ_discrete seen met)
  where
    go : Dec (seen ≡ met) → met ≡ seen
    go (yes same) = sym same
    go (no other) = absurd (omega (arith, xor_some met seen other))

pub some_new : {met seen : ℕ} → (bit_xor met seen ≡ 0 → ⊥) → met ≡ seen → ⊥
some_new {seen = seen} some same = some (ap (λ (m : ℕ). bit_xor m seen) same ∙ xor_self seen)

-- a word that has all of another, and something new, has more marks
one_more : (seen met : ℕ) → met < 2 ^ 48 → seen < 2 ^ 48 → ((b : ℕ) → bit seen b ≡ 1 → bit met b ≡ 1) → (seen ≡ met → ⊥) → marks seen < marks met
one_more seen met met_small small keeps new =
    let b = count_trailing_zeros 64 (bit_xor met seen) in
    let is : bit (bit_xor met seen) b ≡ 1 = trailing_bit 64 (bit_xor met seen) (xor_some met seen new) (omega (arith, xor_lt 48 met seen met_small small)) in
    let both = xor_bit met seen b is (keeps b) in
    let one = marks_more seen b (bit_below met b 48 met_small both.0) both.1 in
    omega (arith, one, marks_within (bit_or seen (2 ^ b)) met (λ a in_one. within a b both.0 (or_either seen (2 ^ b) a in_one)))
  where
    within : (a b : ℕ) → bit met b ≡ 1 → (bit seen a ≡ 1) ⊎ (bit (2 ^ b) a ≡ 1) → bit met a ≡ 1
    within a b has_b (inl old) = keeps a old
    within a b has_b (inr new) = subst (λ (c : ℕ). bit met c ≡ 1) (sym (pow_other b a new)) has_b

module _ {cheap writes : List ℕ} {origin : ℕ} {row waiting distances : List ℕ} {seen ahead distance put taken : ℕ}
    (known : Searching cheap writes origin row waiting distances seen ahead distance put taken) where
  -- What is met next, and at which distance: all that is ahead, and what waits for that distance
  pub record Meeting (next met after : ℕ) : Type 0 where
    pub further : distance < next
    pub within : next ≤ distance + 49
    pub keeps : (b : ℕ) → bit seen b ≡ 1 → bit met b ≡ 1
    pub has_ahead : (b : ℕ) → bit ahead b ≡ 1 → bit met b ≡ 1
    pub nearest : (b : ℕ) → bit ahead b ≡ 1 → bit seen b ≡ 0 → next ≡ distance + 1
    pub fresh : (b : ℕ) → bit met b ≡ 1 → bit seen b ≡ 0 → Route cheap writes origin next b
    pub joins : (k b : ℕ) → taken ≤ k → k < put → bit (get_or waiting k 0) b ≡ 1 → ((bit met b ≡ 1) × (get_or distances k 0 ≡ next)) ⊎ (after ≤ k)
    pub later : (k : ℕ) → after ≤ k → k < put → next < get_or distances k 0
    pub from : taken ≤ after
    pub order : after ≤ put
    pub moves : met ≡ seen → after ≡ taken + 1
    pub small : met < 2 ^ 48

  -- the next distance: one step on, or where nothing is ahead that is new, the first that waits
  pub record Least (next : ℕ) : Type 0 where
    pub further : distance < next
    pub first : next ≤ get_or distances taken 0
    pub nearest : (b : ℕ) → bit ahead b ≡ 1 → bit seen b ≡ 0 → next ≡ distance + 1
    pub idle : bit_or seen ahead ≡ seen → next ≡ get_or distances taken 0

  module _ (some : taken < put) where
    waits_later : distance < get_or distances taken 0
    waits_later = known.later taken (omega arith) some

    next_on : (bit_or seen ahead ≡ seen → ⊥) → Least (distance + 1)
    next_on new = record { further = omega arith; first = omega (arith, waits_later); nearest = λ b is off. refl; idle = λ none. absurd (new none) }

    next_waits : bit_or seen ahead ≡ seen → Least (get_or distances taken 0)
    next_waits none =
        record {
          further = waits_later;
          first = omega arith;
          nearest = λ b is off. absurd (omega (arith, off, subst (λ (m : ℕ). bit m b ≡ 1) none (or_right seen ahead b is)));
          idle = λ same. refl;
        }

    module _ {next : ℕ} (chosen : Least next) where
      near_small : bit_or seen ahead < 2 ^ 48
      near_small = or_lt 48 seen ahead known.seen_small known.ahead_small

      near_fresh : (b : ℕ) → bit seen b ≡ 0 → (bit seen b ≡ 1) ⊎ (bit ahead b ≡ 1) → Route cheap writes origin next b
      near_fresh b off (inl is) = absurd (omega (arith, off, is))
      near_fresh b off (inr is) = subst (λ (d : ℕ). Route cheap writes origin d b) (sym (chosen.nearest b is off)) (known.ahead_way b is)

      -- what waits is further off
      meet_ahead : (next ≡ get_or distances taken 0 → ⊥) → Meeting next (bit_or seen ahead) taken
      meet_ahead different =
          record {
            further = chosen.further;
            within = omega (arith, chosen.first, known.latest taken some);
            keeps = λ b is. or_left seen ahead b is;
            has_ahead = λ b is. or_right seen ahead b is;
            nearest = chosen.nearest;
            fresh = λ b is off. near_fresh b off (or_either seen ahead b is);
            joins = λ k b past below is. inr past;
            later = λ k past below. later k past below (ℕ_discrete k taken);
            from = omega arith;
            order = known.order;
            moves = λ none. absurd (different (chosen.idle none));
            small = near_small;
          }
        where
          later : (k : ℕ) → taken ≤ k → k < put → Dec (k ≡ taken) → next < get_or distances k 0
          later k past below (yes same) = subst (λ (i : ℕ). next < get_or distances i 0) (sym same) (omega (arith, chosen.first, different))
          later k past below (no other) = omega (arith, chosen.first, known.rising taken k (omega (arith, past, other)) below)

      -- the first that waits has that distance
      meet_both : next ≡ get_or distances taken 0 → Meeting next (bit_or (bit_or seen ahead) (get_or waiting taken 0)) (taken + 1)
      meet_both same =
          record {
            further = chosen.further;
            within = omega (arith, chosen.first, known.latest taken some);
            keeps = λ b is. or_left (bit_or seen ahead) (get_or waiting taken 0) b (or_left seen ahead b is);
            has_ahead = λ b is. or_left (bit_or seen ahead) (get_or waiting taken 0) b (or_right seen ahead b is);
            nearest = chosen.nearest;
            fresh = λ b is off. fresh b off (or_either (bit_or seen ahead) (get_or waiting taken 0) b is);
            joins = λ k b past below is. joins k b past is (ℕ_discrete k taken);
            later = λ k past below. omega (arith, same, known.rising taken k (omega (arith, past)) below);
            from = omega arith;
            order = omega arith;
            moves = λ none. refl;
            small = or_lt 48 (bit_or seen ahead) (get_or waiting taken 0) near_small (known.narrow taken some);
          }
        where
          fresh : (b : ℕ) → bit seen b ≡ 0 → (bit (bit_or seen ahead) b ≡ 1) ⊎ (bit (get_or waiting taken 0) b ≡ 1) → Route cheap writes origin next b
          fresh b off (inl is) = near_fresh b off (or_either seen ahead b is)
          fresh b off (inr is) = subst (λ (d : ℕ). Route cheap writes origin d b) (sym same) (known.waiting_way taken b (omega arith) some is)

          joins : (k b : ℕ) → taken ≤ k → bit (get_or waiting k 0) b ≡ 1 → Dec (k ≡ taken)
              → ((bit (bit_or (bit_or seen ahead) (get_or waiting taken 0)) b ≡ 1) × (get_or distances k 0 ≡ next)) ⊎ (taken + 1 ≤ k)
          joins k b past is (yes at) =
              inl (or_right (bit_or seen ahead) (get_or waiting taken 0) b (subst (λ (i : ℕ). bit (get_or waiting i 0) b ≡ 1) at is), ap (λ (i : ℕ). get_or distances i 0) at ∙ sym same)
          joins k b past is (no other) = inr (omega (arith, past, other))

    -- what the code meets
    pub meeting : {next : Next} → NextMet waiting distances seen ahead distance taken next → Meeting next.distance next.seen next.taken
    meeting {next} is = go (ℕ_discrete next.distance (get_or distances taken 0))
      where
        least : Least next.distance
        least = by (ℕ_discrete (bit_or seen ahead) seen)
          where
            by : Dec (bit_or seen ahead ≡ seen) → Least next.distance
            by (yes none) = rw (is.idle none) (next_waits none)
            by (no new) = rw (is.onward new) (next_on new)

        go : Dec (next.distance ≡ get_or distances taken 0) → Meeting next.distance next.seen next.taken
        go (yes same) = rw ((is.joined same).0, (is.joined same).1) (meet_both least same)
        go (no different) = rw ((is.apart different).0, (is.apart different).1) (meet_ahead least different)

  module _ {next met after : ℕ} (meets : Meeting next met after) where
    abbrev level : ℕ
    level = bit_xor met seen

    -- the new ones are settled at the next distance
    settled' : ℕ → ℕ
    settled' b = cond (has seen b) (known.settled b) next

    as_before : (b : ℕ) → bit seen b ≡ 1 → settled' b ≡ known.settled b
    unfolding settled'
    as_before b is = ap (λ (t : Bool). cond t (known.settled b) next) (eq-eqb (bit seen b) 1 is)

    as_new : (b : ℕ) → bit seen b ≡ 0 → settled' b ≡ next
    unfolding settled'
    as_new b off = ap (λ (t : Bool). cond t (known.settled b) next) (ne_eqb (bit seen b) 1 (λ is. omega (arith, off, is)))

    level_has : (b : ℕ) → bit met b ≡ 1 → bit seen b ≡ 0 → bit level b ≡ 1
    level_has b is off = xor_has met seen b is off

    level_is : (b : ℕ) → bit level b ≡ 1 → (bit met b ≡ 1) × (bit seen b ≡ 0)
    level_is b is = xor_bit met seen b is (meets.keeps b)

    level_not : (b : ℕ) → bit seen b ≡ 1 → bit level b ≡ 0
    level_not b is = go (bit_cases level b)
      where
        go : (bit level b ≡ 0) ⊎ (bit level b ≡ 1) → bit level b ≡ 0
        go (inl off) = off
        go (inr on) = absurd (omega (arith, is, (level_is b on).1))

    level_way : (b : ℕ) → bit level b ≡ 1 → Route cheap writes origin next b
    level_way b is = meets.fresh b (level_is b is).0 (level_is b is).1

    still : {d b : ℕ} → Within seen known.settled d b → Within met settled' d b
    still {d} {b} there = (meets.keeps b there.0, omega (arith, as_before b there.0, there.1))

    by_seen : (P : ℕ → Type 0) (b : ℕ) → (bit seen b ≡ 1 → P (known.settled b)) → (bit seen b ≡ 0 → P next) → P (settled' b)
    by_seen P b old new = go (bit_cases seen b)
      where
        go : (bit seen b ≡ 0) ⊎ (bit seen b ≡ 1) → P (settled' b)
        go (inl off) = subst P (sym (as_new b off)) (new off)
        go (inr is) = subst P (sym (as_before b is)) (old is)

    -- over an edge that is no write
    near_old : (a b : ℕ) → bit seen a ≡ 1 → bit (get_or cheap a 0) b ≡ 1 → Within met settled' (settled' a + 1) b
    near_old a b is edge = go (known.near a b is edge)
      where
        go : Within seen known.settled (known.settled a + 1) b ⊎ ((bit ahead b ≡ 1) × (known.settled a ≡ distance)) → Within met settled' (settled' a + 1) b
        go (inl there) = still (there.0, omega (arith, there.1, as_before a is))
        go (inr (on, last)) = (
          meets.has_ahead b on,
          by_seen (λ (d : ℕ). d ≤ settled' a + 1) b
              (λ there. omega (arith, known.most b there, last, as_before a is))
              (λ off. omega (arith, meets.nearest b on off, last, as_before a is)),
        )

    -- over a write
    far_old : (a b : ℕ) → bit seen a ≡ 1 → bit (get_or writes a 0) b ≡ 1 → Within met settled' (settled' a + 49) b ⊎ Waits waiting distances after put (settled' a + 49) b
    far_old a b is edge = go (known.far a b is edge)
      where
        go : Within seen known.settled (known.settled a + 49) b ⊎ Waits waiting distances taken put (known.settled a + 49) b
            → Within met settled' (settled' a + 49) b ⊎ Waits waiting distances after put (settled' a + 49) b
        go (inl there) = inl (still (there.0, omega (arith, there.1, as_before a is)))
        go (inr (k, past, below, on, at)) = taken_or (meets.joins k b past below on)
          where
            taken_or : ((bit met b ≡ 1) × (get_or distances k 0 ≡ next)) ⊎ (after ≤ k) → Within met settled' (settled' a + 49) b ⊎ Waits waiting distances after put (settled' a + 49) b
            taken_or (inl (there, same)) =
                inl (
                  there,
                  by_seen (λ (d : ℕ). d ≤ settled' a + 49) b
                      (λ old. omega (arith, known.most b old, meets.further, same, at, as_before a is))
                      (λ off. omega (arith, same, at, as_before a is)),
                )
            taken_or (inr later) = inr (k, later, below, on, at ∙ ap (λ (d : ℕ). d + 49) (sym (as_before a is)))

    begins' : Within met settled' 0 origin
    begins' = still known.begins

    way' : (b : ℕ) → bit met b ≡ 1 → Route cheap writes origin (settled' b) b
    way' b is = by_seen (λ (d : ℕ). Route cheap writes origin d b) b (known.way b) (λ off. meets.fresh b is off)

    most' : (b : ℕ) → settled' b ≤ next
    most' b = by_seen (λ (d : ℕ). d ≤ next) b (λ is. omega (arith, known.most b is, meets.further)) (λ off. omega arith)

    -- nothing is new
    pub met_nothing : met ≡ seen → Searching cheap writes origin row waiting distances met 0 next put after
    met_nothing none =
        record {
          settled = settled';
          begins = begins';
          way = way';
          most = λ b is. most' b;
          counted = λ b is. known.counted b (old b is) ∙ ap (λ (d : ℕ). d % 128) (sym (as_before b (old b is)));
          uncounted = λ b b_in off. known.uncounted b b_in (subst (λ (m : ℕ). bit m b ≡ 0) none off);
          near = λ a b is edge. inl (near_old a b (old a is) edge);
          far = λ a b is edge. far_old a b (old a is) edge;
          ahead_way = λ b is. absurd (omega (arith, is, bit_zero b));
          waiting_way = λ k b past below is. known.waiting_way k b (omega (arith, past, meets.from)) below is;
          later = meets.later;
          rising = known.rising;
          latest = λ k below. omega (arith, known.latest k below, meets.further);
          left = inl refl;
          order = meets.order;
          many = subst (λ (m : ℕ). put ≤ marks m) (sym none) known.many;
          bounded = omega (arith, known.bounded, meets.within, meets.moves none);
          seen_small = meets.small;
          ahead_small = pow_pos 48;
          narrow = known.narrow;
          rooms = known.rooms;
        }
      where
        old : (b : ℕ) → bit met b ≡ 1 → bit seen b ≡ 1
        old b is = subst (λ (m : ℕ). bit m b ≡ 1) none is

    -- the level is a word of array terms
    pub level_small : level < 2 ^ 48
    level_small = xor_lt 48 met seen meets.small known.seen_small

    -- a place is left for a level with something new
    pub some_room : (met ≡ seen → ⊥) → put < 48
    some_room new = omega (arith, known.many, one_more seen met meets.small known.seen_small meets.keeps (λ same. new (sym same)), marks_most met)

    -- the new level is put
    pub met_level : (met ≡ seen → ⊥) → {row' : List ℕ} {ahead' beyond : ℕ} → length row' ≡ 48 → LevelPut level (next % 128) row row' → AheadOf cheap level ahead' → AheadOf writes level beyond
        → Searching cheap writes origin row' (set waiting put beyond) (set distances put (next + 49)) met ahead' next (put + 1) after
    met_level new {row'} {ahead'} {beyond} long level_put Near-of far_of =
        record {
          settled = settled';
          begins = begins';
          way = way';
          most = λ b is. most' b;
          counted = λ b is. by_seen (λ (d : ℕ). get_or row' b 0 ≡ d % 128) b (λ there. level_put.kept b (level_not b there) ∙ known.counted b there) (λ off. level_put.put b (level_has b is off));
          uncounted = λ b b_in off. uncounted b b_in off (bit_cases seen b) (bit_cases level b);
          near = λ a b is edge. near a b is edge (bit_cases seen a);
          far = λ a b is edge. far a b is edge (bit_cases seen a);
          ahead_way = λ b is. let found = Near-of.sound b is in along (level_way found.0 found.1) found.2;
          waiting_way = λ k b past below is. waiting_way k b past below is (ℕ_discrete k put);
          later = λ k past below. at_or (λ (d : ℕ). next < d) k below (λ here. meets.later k past here) (omega arith);
          rising = λ k l before below. at_or (λ (d : ℕ). get_or (set distances put (next + 49)) k 0 < d) l below
              (λ here. rw (old_distance k (omega arith)) (known.rising k l before here))
              (rw (old_distance k (omega arith)) (omega (arith, known.latest k (omega arith), meets.further)));
          latest = λ k below. at_or (λ (d : ℕ). d ≤ next + 49) k below (λ here. omega (arith, known.latest k here, meets.further)) (omega arith);
          left = inr (omega (arith, meets.order));
          order = omega (arith, meets.order);
          many = omega (arith, known.many, one_more seen met meets.small known.seen_small meets.keeps (λ same. new (sym same)));
          bounded = omega (arith, known.bounded, meets.within, meets.from);
          seen_small = meets.small;
          ahead_small = Near-of.small;
          narrow = λ k below. narrow k below (ℕ_discrete k put);
          rooms = (long, length-set waiting put beyond ∙ known.rooms.1, length-set distances put (next + 49) ∙ known.rooms.2);
        }
      where
        waiting_in : put < length waiting
        waiting_in = omega (arith, some_room new, known.rooms.1)

        distances_in : put < length distances
        distances_in = omega (arith, some_room new, known.rooms.2)

        old_waiting : (k : ℕ) → k < put → get_or (set waiting put beyond) k 0 ≡ get_or waiting k 0
        old_waiting k below = put_else waiting put beyond k (λ same. omega (arith, same, below))

        old_distance : (k : ℕ) → k < put → get_or (set distances put (next + 49)) k 0 ≡ get_or distances k 0
        old_distance k below = put_else distances put (next + 49) k (λ same. omega (arith, same, below))

        at_or : (P : ℕ → Type 0) (k : ℕ) → k < put + 1 → (k < put → P (get_or distances k 0)) → P (next + 49) → P (get_or (set distances put (next + 49)) k 0)
        at_or P k below old new_one = go (ℕ_discrete k put)
          where
            go : Dec (k ≡ put) → P (get_or (set distances put (next + 49)) k 0)
            go (yes same) = subst P (sym (put_at distances put (next + 49) k distances_in same)) new_one
            go (no other) =
                let here : k < put = omega (arith, other) in
                subst P (sym (old_distance k here)) (old here)

        uncounted : (b : ℕ) → b < 48 → bit met b ≡ 0 → (bit seen b ≡ 0) ⊎ (bit seen b ≡ 1) → (bit level b ≡ 0) ⊎ (bit level b ≡ 1) → get_or row' b 0 ≡ 255
        uncounted b b_in off (inr is) either = absurd (omega (arith, off, meets.keeps b is))
        uncounted b b_in off (inl unseen) (inr is) = absurd (omega (arith, off, (level_is b is).0))
        uncounted b b_in off (inl unseen) (inl unput) = level_put.kept b unput ∙ known.uncounted b b_in unseen

        near : (a b : ℕ) → bit met a ≡ 1 → bit (get_or cheap a 0) b ≡ 1 → (bit seen a ≡ 0) ⊎ (bit seen a ≡ 1)
            → Within met settled' (settled' a + 1) b ⊎ ((bit ahead' b ≡ 1) × (settled' a ≡ next))
        near a b is edge (inl off) = inr (Near-of.complete a b (level_has a is off) edge, as_new a off)
        near a b is edge (inr there) = inl (near_old a b there edge)

        far : (a b : ℕ) → bit met a ≡ 1 → bit (get_or writes a 0) b ≡ 1 → (bit seen a ≡ 0) ⊎ (bit seen a ≡ 1)
            → Within met settled' (settled' a + 49) b ⊎ Waits (set waiting put beyond) (set distances put (next + 49)) after (put + 1) (settled' a + 49) b
        far a b is edge (inl off) =
            inr (put, meets.order, omega arith, rw (put_at waiting put beyond put waiting_in refl) (far_of.complete a b (level_has a is off) edge), put_at distances put (next + 49) put distances_in refl ∙ ap (λ (d : ℕ). d + 49) (sym (as_new a off)))
        far a b is edge (inr there) = go (far_old a b there edge)
          where
            go : Within met settled' (settled' a + 49) b ⊎ Waits waiting distances after put (settled' a + 49) b
                → Within met settled' (settled' a + 49) b ⊎ Waits (set waiting put beyond) (set distances put (next + 49)) after (put + 1) (settled' a + 49) b
            go (inl within) = inl within
            go (inr (k, past, below, on, at)) = inr (k, past, omega (arith, below), rw (old_waiting k below) on, old_distance k below ∙ at)

        waiting_way : (k b : ℕ) → after ≤ k → k < put + 1 → bit (get_or (set waiting put beyond) k 0) b ≡ 1 → Dec (k ≡ put) → Route cheap writes origin (get_or (set distances put (next + 49)) k 0) b
        waiting_way k b past below is (yes same) =
            let found = far_of.sound b (rw (put_at waiting put beyond k waiting_in same) at is) in
            subst (λ (d : ℕ). Route cheap writes origin d b) (sym (put_at distances put (next + 49) k distances_in same)) (over (level_way found.0 found.1) found.2)
        waiting_way k b past below is (no other) =
            let here : k < put = omega (arith, other) in
            subst (λ (d : ℕ). Route cheap writes origin d b) (sym (old_distance k here)) (known.waiting_way k b (omega (arith, past, meets.from)) here (rw (old_waiting k here) at is))

        narrow : (k : ℕ) → k < put + 1 → Dec (k ≡ put) → get_or (set waiting put beyond) k 0 < 2 ^ 48
        narrow k below (yes same) = rw (put_at waiting put beyond k waiting_in same) far_of.small
        narrow k below (no other) = rw (put_else waiting put beyond k other) (known.narrow k (omega (arith, other)))
