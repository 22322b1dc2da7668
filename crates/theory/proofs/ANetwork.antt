-- A network of five entities, with channels 0 to 1, 1 to 2, 2 to 3 and 3 to 2: what the definitions say of it.
use Prim.Native.Nat.{ℕ, zero, suc, ◌≤◌, ◌<◌}
use mathlib.Core.Path.{◌≡◌, refl}
use mathlib.Core.List.{List, [], ◌∷◌}
use native.Mathlib.Omega.{arith}
use lib.Dec.{lit<, lit≤}
use lib.ListN.{length, get_or}
use Rattle.answers.specs.Rows.{Mark, one, none, count}
use Rattle.theory.specs.Flow.{Flow, here, step}
use Rattle.theory.specs.Chain.{Chain, alone, link, NotAfter, ended, less, equal as same_first, Best}
use Rattle.theory.specs.Order.{Label, LabelSize, Equivalent, ClassName, equal, below, above, incomparable, Compares, both, only_there, only_back, neither, Greatest}
use Rattle.theory.specs.Effect.{Effect}
use Rattle.theory.proofs.Flows.{flow_closed, flow_closed_back}
use Rattle.theory.specs.Laws.{Inside}

pub data Hop : ℕ → ℕ → Type 0 where
  hop01 : Hop 0 1
  hop12 : Hop 1 2
  hop23 : Hop 2 3
  hop32 : Hop 3 2

inside : Inside 5 Hop
inside _ _ hop01 = (lit< tt, lit< tt)
inside _ _ hop12 = (lit< tt, lit< tt)
inside _ _ hop23 = (lit< tt, lit< tt)
inside _ _ hop32 = (lit< tt, lit< tt)

-- nothing flows back from 2 and 3
stays_high : {x y : ℕ} → 2 ≤ x → Flow Hop x y → 2 ≤ y
stays_high h f = flow_closed (λ z. 2 ≤ z) h closed f
  where
    closed : (a b : ℕ) → 2 ≤ a → Hop a b → 2 ≤ b
    closed _ _ g hop01 = omega arith
    closed _ _ g hop12 = omega arith
    closed _ _ g hop23 = omega arith
    closed _ _ g hop32 = omega arith

-- 4 is isolated
pub out_of_4 : (y : ℕ) → Hop 4 y → ⊥
out_of_4 y c = go 4 y c refl
  where
    go : (a b : ℕ) → Hop a b → a ≡ 4 → ⊥
    go _ _ hop01 e = omega arith
    go _ _ hop12 e = omega arith
    go _ _ hop23 e = omega arith
    go _ _ hop32 e = omega arith

pub into_4 : (y : ℕ) → Hop y 4 → ⊥
into_4 y c = omega (arith, inside_low y 4 c)
  where
    inside_low : (a b : ℕ) → Hop a b → b ≤ 3
    inside_low _ _ hop01 = omega arith
    inside_low _ _ hop12 = omega arith
    inside_low _ _ hop23 = omega arith
    inside_low _ _ hop32 = omega arith

entity_4_stays : {y : ℕ} → Flow Hop 4 y → y ≡ 4
entity_4_stays f = flow_closed (λ z. z ≡ 4) refl (λ a b e c. absurd (out_of_4 b (rw e at c))) f

into_4_of : {y : ℕ} → Flow Hop y 4 → y ≡ 4
into_4_of f = flow_closed_back (λ z. z ≡ 4) refl (λ a b e c. absurd (into_4 a (rw e at c))) f

to_1 : Flow Hop 0 1
to_1 = step here hop01

pub to_2 : Flow Hop 0 2
to_2 = step to_1 hop12

-- a flow of three channels
pub to_3 : Flow Hop 0 3
to_3 = step to_2 hop23

entity_2_to_3 : Flow Hop 2 3
entity_2_to_3 = step here hop23

entity_3_to_2 : Flow Hop 3 2
entity_3_to_2 = step here hop32

not_back : Flow Hop 3 0 → ⊥
not_back f = omega (arith, stays_high (lit≤2) f)
  where
    lit≤2 : 2 ≤ 3
    lit≤2 = omega arith

into_0 : {y : ℕ} → Flow Hop y 0 → y ≡ 0
into_0 f = flow_closed_back (λ z. z ≡ 0) refl (λ a b e c. absurd (go a b c e)) f
  where
    go : (a b : ℕ) → Hop a b → b ≡ 0 → ⊥
    go _ _ hop01 e = omega arith
    go _ _ hop12 e = omega arith
    go _ _ hop23 e = omega arith
    go _ _ hop32 e = omega arith

-- "each flows to the other": 0 and 1 are not equivalent, since 1 does not flow to 0
pub one_way : Equivalent (Flow Hop) 0 1 → ⊥
one_way e = omega (arith, into_0 e.back)

-- "Two entities are equivalent if each flows to the other": 3 and 2 are
pub same_class : Equivalent (Flow Hop) 3 2
same_class = record { there = entity_3_to_2; back = entity_2_to_3 }

-- the class of 3 is named 2
pub named : ClassName 5 (Flow Hop) 3 2
named = record { below = lit< tt; member = same_class; smallest = λ z _ e. stays_high (lit< tt) e.there }

-- the label of 2 has 0, 1, 2 and 3
pub label_of_2 : Label 5 (Flow Hop) 2 (1 ∷ 1 ∷ 1 ∷ 1 ∷ 0 ∷ [])
label_of_2 = record { size = refl; bytes = byte }
  where
    byte : (y : ℕ) → y < 5 → Mark (Flow Hop y 2) (get_or (1 ∷ 1 ∷ 1 ∷ 1 ∷ 0 ∷ []) y 0)
    byte zero h = one refl to_2
    byte (suc zero) h = one refl (step here hop12)
    byte (suc (suc zero)) h = one refl here
    byte (suc (suc (suc zero))) h = one refl entity_3_to_2
    byte (suc (suc (suc (suc zero)))) h = none refl (λ f. omega (arith, entity_4_stays f))
    byte (suc (suc (suc (suc (suc y))))) h = absurd (omega arith)

-- "The label of x is the set of y with flow from y to x": that of 2 has four entities
pub size_of_2 : LabelSize 5 (Flow Hop) 2 4
unfolding count
size_of_2 = record { row = 1 ∷ 1 ∷ 1 ∷ 1 ∷ 0 ∷ []; label = label_of_2; counted = refl }

-- 0 is below 3, 3 is above 0, 2 and 3 are equal, 0 and 4 are incomparable
pub record Orders : Type 0 where
  entity_0_3 : Compares (Flow Hop) 0 3 below
  entity_3_0 : Compares (Flow Hop) 3 0 above
  entity_2_3 : Compares (Flow Hop) 2 3 equal
  entity_0_4 : Compares (Flow Hop) 0 4 incomparable

pub orders : Orders
orders =
    record {
      entity_0_3 = only_there to_3 not_back;
      entity_3_0 = only_back not_back to_3;
      entity_2_3 = both entity_2_to_3 entity_3_to_2;
      entity_0_4 = neither (λ f. omega (arith, into_4_of f)) (λ f. omega (arith, entity_4_stays f));
    }

-- "Greatest integrity: nothing but itself flows into it": 0 has it, and no secrecy
pub integrity_of_0 : Greatest 5 (Flow Hop) 0 2
integrity_of_0 =
    record {
      secrecy = 0;
      integrity = 1;
      secret = none refl (λ s. omega (arith, s 1 (lit< tt) to_1));
      integral = one refl (λ y _ f. into_0 f);
      summed = refl;
    }

-- "An isolated entity has both"
pub both_flags : Greatest 5 (Flow Hop) 4 3
both_flags =
    record { secrecy = 1; integrity = 1; secret = one refl (λ y _ f. entity_4_stays f); integral = one refl (λ y _ f. into_4_of f); summed = refl }

-- "Greatest secrecy: .. Greatest integrity: nothing but itself flows into it": 2 flows to 3 and 3 into 2, so its flags are 0
pub no_flags_of_2 : Greatest 5 (Flow Hop) 2 0
no_flags_of_2 =
    record {
      secrecy = 0;
      integrity = 0;
      secret = none refl (λ s. omega (arith, s 3 (lit< tt) entity_2_to_3));
      integral = none refl (λ s. omega (arith, s 3 (lit< tt) entity_3_to_2));
      summed = refl;
    }

-- ---- a change that gains and loses: R has 0 to 1 alone, R' 2 to 1 alone
pub data From0 : ℕ → ℕ → Type 0 where
  from0 : From0 0 1

pub data From2 : ℕ → ℕ → Type 0 where
  from2 : From2 2 1

-- "3 both": of three entities, the label of 1 gains 2 and loses 0
pub effect_of_1 : Effect 3 From0 From2 1 3
effect_of_1 =
    record {
      gain = 1;
      loss = 1;
      gained = one refl (record { entity = 2; below = lit< tt; lacked = not_from_0; has = from2 });
      lost = one refl (record { entity = 0; below = lit< tt; lacked = not_from_2; has = from0 });
      summed = refl;
    }
  where
    not_from_0 : From0 2 1 → ⊥
    not_from_0 c = go 2 1 c refl
      where
        go : (a b : ℕ) → From0 a b → a ≡ 2 → ⊥
        go _ _ from0 e = omega arith

    not_from_2 : From2 0 1 → ⊥
    not_from_2 c = go 0 1 c refl
      where
        go : (a b : ℕ) → From2 a b → a ≡ 0 → ⊥
        go _ _ from2 e = omega arith

-- "Greatest secrecy: the entity flows to nothing but itself": 1, to which 0 alone leads, has it, and no integrity
pub secrecy_of_1 : Greatest 3 From0 1 1
secrecy_of_1 =
    record {
      secrecy = 1;
      integrity = 0;
      secret = one refl (λ y _ c. absurd (from_0 1 y c refl));
      integral = none refl (λ g. omega (arith, g 0 (lit< tt) from0));
      summed = refl;
    }
  where
    from_0 : (a b : ℕ) → From0 a b → a ≡ 1 → ⊥
    from_0 _ _ from0 e = omega arith

-- ---- no channel before and one from 0 to 1 after: 1 gains; the other way round it loses
abbrev pub Nowhere : ℕ → ℕ → Type 0
Nowhere a b = ⊥

-- "1 gained only": of three entities, the label of 1 gains 0 and loses nothing
pub effect_of_gain : Effect 3 Nowhere From0 1 1
effect_of_gain =
    record {
      gain = 1;
      loss = 0;
      gained = one refl (record { entity = 0; below = lit< tt; lacked = λ c. c; has = from0 });
      lost = none refl (λ g. g.has);
      summed = refl;
    }

-- "2 lost only": of three entities, the label of 1 loses 0 and gains nothing
pub effect_of_loss : Effect 3 From0 Nowhere 1 2
effect_of_loss =
    record {
      gain = 0;
      loss = 1;
      gained = none refl (λ g. g.has);
      lost = one refl (record { entity = 0; below = lit< tt; lacked = λ c. c; has = from0 });
      summed = refl;
    }

-- no change at all
pub effect_of_nothing : Effect 3 Hop Hop 1 0
effect_of_nothing =
    record {
      gain = 0;
      loss = 0;
      gained = none refl (λ g. g.lacked g.has);
      lost = none refl (λ g. g.lacked g.has);
      summed = refl;
    }

-- ---- from 2 to 2 it is 2 alone, and not the chain by 3
-- "shortest": from 2 to 2 the chain by 3 is not the one
pub no_detour : Best Hop 2 2 (2 ∷ 3 ∷ 2 ∷ []) → ⊥
no_detour b = omega (arith, b.shortest (2 ∷ []) alone)

-- ---- two shortest chains from 0 to 3, by 1 and by 2: the one that is shown goes by 1
pub data Fork : ℕ → ℕ → Type 0 where
  fork01 : Fork 0 1
  fork02 : Fork 0 2
  fork13 : Fork 1 3
  fork23 : Fork 2 3

from_3 : {b : ℕ} → Fork 3 b → ⊥
from_3 c = go c refl
  where
    go : {a b : ℕ} → Fork a b → a ≡ 3 → ⊥
    go fork01 e = omega arith
    go fork02 e = omega arith
    go fork13 e = omega arith
    go fork23 e = omega arith

data ByOneOrTwo : List ℕ → Type 0 where
  by_1 : ByOneOrTwo (0 ∷ 1 ∷ 3 ∷ [])
  by_2 : ByOneOrTwo (0 ∷ 2 ∷ 3 ∷ [])

only_two : {m : List ℕ} → Chain Fork 0 3 m → ByOneOrTwo m
only_two (link fork01 (link fork13 alone)) = by_1
only_two (link fork01 (link fork13 (link c t))) = absurd (from_3 c)
only_two (link fork02 (link fork23 alone)) = by_2
only_two (link fork02 (link fork23 (link c t))) = absurd (from_3 c)

-- "among the shortest the smallest compared number by number from the start": from 0 to 3, by 1 or by 2, it is 0, 1, 3
pub smallest_of_two : Best Fork 0 3 (0 ∷ 1 ∷ 3 ∷ [])
smallest_of_two =
    record { chain = link fork01 (link fork13 alone); shortest = λ m c. short (only_two c); smallest = λ m c e. first (only_two c) }
  where
    short : {m : List ℕ} → ByOneOrTwo m → 3 ≤ length m
    short by_1 = lit≤ tt
    short by_2 = lit≤ tt

    first : {m : List ℕ} → ByOneOrTwo m → NotAfter (0 ∷ 1 ∷ 3 ∷ []) m
    first by_1 = same_first (same_first (same_first ended))
    first by_2 = same_first (less (lit< tt))
