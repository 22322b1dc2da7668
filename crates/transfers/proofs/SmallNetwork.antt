-- The channels of `Examples` as a network, what the laws of this folder ask of them, and marks for it.
use Prim.Native.Nat.{ℕ, zero, suc, ◌^◌, ◌<◌}
use mathlib.Core.Path.{◌≡◌, refl}
use mathlib.Core.Logic.{inl, inr}
use mathlib.Core.List.{List, [], ◌∷◌}
use native.Mathlib.Omega.{arith}
use lib.Dec.{lit<, lit≤}
use lib.ListN.{get_or, replicate}
use Rattle.theory.specs.Flow.{Flow}
use Rattle.theory.specs.Chain.{Chain, alone, link, ended, equal, Best}
use Rattle.theory.proofs.Flows.{flow_closed}
use Rattle.transfers.specs.Demand3.{Marks32, Starts}
use Rattle.transfers.proofs.Examples.{Hop, written, read, few, nothing_from_1}
use Rattle.theory.specs.Laws.{Inside}
use Rattle.access.specs.Channel.{TwoSided}

abbrev pub chain : List ℕ
chain = 0 ∷ 2 ∷ 1 ∷ []

pub inside : Inside 3 Hop
inside _ _ written = (lit< tt, lit< tt)
inside _ _ read = (lit< tt, lit< tt)

pub sides : (a b : ℕ) → Hop a b → TwoSided few a b
sides _ _ written = inl (lit< tt, lit≤ tt, lit< tt)
sides _ _ read = inr (lit< tt, lit≤ tt, lit< tt)

only_chain : {m : List ℕ} → Chain Hop 0 1 m → m ≡ 0 ∷ 2 ∷ 1 ∷ []
only_chain (link written (link read alone)) = refl
only_chain (link written (link read (link h t))) = absurd (nothing_from_1 h refl)

pub best : Best Hop 0 1 (0 ∷ 2 ∷ 1 ∷ [])
best =
    record {
      chain = link written (link read alone);
      shortest = λ m c. rw (only_chain c) (lit≤ tt);
      smallest = λ m c e. rw (only_chain c) (equal (equal (equal ended)));
    }

pub entity_1_stays : {y : ℕ} → Flow Hop 1 y → y ≡ 1
entity_1_stays f = flow_closed (λ z. z ≡ 1) refl (λ a b e c. absurd (nothing_from_1 c e)) f

-- ---- marks
unfoldable pub marks : ℕ → ℕ → List ℕ
marks a b = a ∷ b ∷ replicate 110 0

zeros : (n : ℕ) → Marks32 (replicate n 0)
zeros zero z = lit< tt
zeros (suc n) zero = lit< tt
zeros (suc n) (suc z) = zeros n z

bits : (a b : ℕ) → a < 2 ^ 32 → b < 2 ^ 32 → Marks32 (marks a b)
unfolding marks
bits a b p q zero = p
bits a b p q (suc zero) = q
bits a b p q (suc (suc z)) = zeros 110 z

-- marks that differ at 0 only, and marks that differ at 1 only
pub starts_0 : Starts 3 0 (marks 7 0) (marks 9 0)
unfolding marks
starts_0 =
    record {
      entity = lit< tt;
      bits = bits 7 0 (lit< tt) (lit< tt);
      bits' = bits 9 0 (lit< tt) (lit< tt);
      apart = record { same_length = refl; differ = λ e. omega arith; agree = agree };
    }
  where
    agree : (z : ℕ) → z < 3 → (z ≡ 0 → ⊥) → get_or (marks 7 0) z 0 ≡ get_or (marks 9 0) z 0
    agree zero h ne = absurd (ne refl)
    agree (suc z) h ne = refl

pub starts_1 : Starts 3 1 (marks 7 0) (marks 7 3)
unfolding marks
starts_1 =
    record {
      entity = lit< tt;
      bits = bits 7 0 (lit< tt) (lit< tt);
      bits' = bits 7 3 (lit< tt) (lit< tt);
      apart = record { same_length = refl; differ = λ e. omega arith; agree = agree };
    }
  where
    agree : (z : ℕ) → z < 3 → (z ≡ 1 → ⊥) → get_or (marks 7 0) z 0 ≡ get_or (marks 7 3) z 0
    agree zero h ne = refl
    agree (suc zero) h ne = absurd (ne refl)
    agree (suc (suc z)) h ne = refl
