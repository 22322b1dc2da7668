-- What the words of demand 3 say of small marks and small results on the small network: what each asks for, and no more.
use Prim.Native.Nat.{ℕ, zero, suc, ◌<◌}
use mathlib.Core.Path.{◌≡◌, refl, ap}
use mathlib.Core.List.{List, [], ◌∷◌}
use native.Mathlib.Omega.{arith}
use lib.Dec.{lit<}
use lib.ListN.{get_or}
use Rattle.theory.specs.Flow.{Flow, here}
use Rattle.transfers.specs.Rehearse.{tally, Rehearsed}
use Rattle.transfers.specs.Demand3.{Marks32, DifferAt, Starts, TwoLendings, Alike, AllApplied, Reached}
use Rattle.transfers.proofs.Examples.{Hop}
use Rattle.transfers.proofs.SmallNetwork.{marks, entity_1_stays}

-- ---- marks
largest : Marks32 (4294967295 ∷ [])
largest zero = lit< tt
largest (suc z) = lit< tt

too_large : Marks32 (4294967296 ∷ []) → ⊥
too_large m = omega (arith, m 0)

-- marks past the entities may differ
past_the_entities : DifferAt 1 0 (7 ∷ 5 ∷ []) (9 ∷ 6 ∷ [])
past_the_entities = record { same_length = refl; differ = λ e. omega arith; agree = agree }
  where
    agree : (z : ℕ) → z < 1 → (z ≡ 0 → ⊥) → ◌≡◌ {A = ℕ} (get_or (7 ∷ 5 ∷ []) z 0) (get_or (9 ∷ 6 ∷ []) z 0)
    agree zero h ne = absurd (ne refl)
    agree (suc z) h ne = absurd (omega arith)

equal_marks : (m : List ℕ) → DifferAt 3 0 m m → ⊥
equal_marks m d = d.differ refl

another_entity : DifferAt 2 0 (7 ∷ 5 ∷ []) (9 ∷ 6 ∷ []) → ⊥
another_entity d = omega (arith, d.agree 1 (lit< tt) (λ e. omega arith))

other_lengths : DifferAt 1 0 (7 ∷ []) (9 ∷ 0 ∷ []) → ⊥
other_lengths d = omega (arith, d.same_length)

no_entity : (m m' : List ℕ) → Starts 3 3 m m' → ⊥
no_entity m m' s = omega (arith, s.entity)

first_bits : (m : List ℕ) → Starts 3 0 (4294967296 ∷ []) m → ⊥
first_bits m s = omega (arith, s.bits 0)

second_bits : (m : List ℕ) → Starts 3 0 m (4294967296 ∷ []) → ⊥
second_bits m s = omega (arith, s.bits' 0)

other_verdict_lengths : TwoLendings 3 0 (marks 7 0) (marks 9 0) (1 ∷ []) (1 ∷ 1 ∷ []) → ⊥
other_verdict_lengths two = omega (arith, two.same_verdict_length)

-- ---- results of one transfer, with the mark m of entity 2, where 1 does not flow
abbrev result : (answer applied outside b m v : ℕ) → Rehearsed
result answer applied outside b m v =
    record { answer = answer; applied = applied; marks = 7 ∷ b ∷ m ∷ []; verdicts = v ∷ 9 ∷ []; tally = tally 0 outside 0 }

-- the mark of 1 itself may differ, and so may a verdict byte behind the list and any verdict byte of refused calls
may_differ : Alike 3 Hop 1 0 (result 0 1 0 4 5 0) (result 0 1 0 6 5 10)
may_differ =
    record { same_answer = refl; same_applied = refl; same_tally = refl; same_verdicts = λ _. refl; same_marks = same }
  where
    same : (y : ℕ) → y < 3 → (Flow Hop 1 y → ⊥) → ◌≡◌ {A = ℕ} (get_or (7 ∷ 4 ∷ 5 ∷ []) y 0) (get_or (7 ∷ 6 ∷ 5 ∷ []) y 0)
    same zero h lacks = refl
    same (suc zero) h lacks = absurd (lacks here)
    same (suc (suc y)) h lacks = refl

refused_may_differ : Alike 3 Hop 1 1 (result 15 0 0 4 5 0) (result 15 0 0 4 5 10)
refused_may_differ =
    record { same_answer = refl; same_applied = refl; same_tally = refl; same_verdicts = λ e. absurd (omega arith); same_marks = λ y h lacks. refl }

-- and nothing else
record Same (a a' n n' o o' m m' v v' : ℕ) : Type 0 where
  answer : a ≡ a'
  applied : n ≡ n'
  outside : o ≡ o'
  mark : m ≡ m'
  verdict : a ≡ 0 → v ≡ v'

alike_same : {a a' n n' o o' b b' m m' v v' : ℕ} → Alike 3 Hop 1 1 (result a n o b m v) (result a' n' o' b' m' v') → Same a a' n n' o o' m m' v v'
alike_same k =
    record {
      answer = k.same_answer;
      applied = k.same_applied;
      outside = ap (λ t. t.outside) k.same_tally;
      mark = k.same_marks 2 (lit< tt) (λ f. omega (arith, entity_1_stays f));
      verdict = λ e. ap (λ l. get_or l 0 0) (k.same_verdicts e);
    }

-- accepted, counted and with the byte 0
applied_result : (b m : ℕ) → AllApplied 1 (result 0 1 0 b m 0)
applied_result b m = record { accepted = refl; all_counted = refl; all_zero = refl }

all_applied : {a n o b m v : ℕ} → AllApplied 1 (result a n o b m v) → (a ≡ 0) × (n ≡ 1) × (v ≡ 0)
all_applied k = (k.accepted, k.all_counted, ap (λ l. get_or l 0 0) k.all_zero)

-- different at 2, which both reach
reached_result : Reached 1 2 (result 0 1 0 4 5 0) (result 0 1 0 4 6 0)
reached_result = record { applied = applied_result 4 5; applied' = applied_result 4 6; differ = λ e. omega arith }

not_reached : {b b' m : ℕ} → Reached 1 2 (result 0 1 0 b m 0) (result 0 1 0 b' m 0) → ⊥
not_reached k = k.differ refl

reached_second : {a n v : ℕ} → Reached 1 2 (result 0 1 0 4 5 0) (result a n 0 4 6 v) → (a ≡ 0) × (n ≡ 1) × (v ≡ 0)
reached_second k = all_applied k.applied'
