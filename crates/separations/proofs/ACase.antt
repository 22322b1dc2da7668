-- Channels 0 to 1 and 1 to 2 among four entities: what is shown, and which separation is the first broken one.
use Prim.Native.Nat.{ℕ, zero, suc, ◌≤◌, ◌<◌}
use mathlib.Core.Path.{refl}
use mathlib.Core.List.{List, [], ◌∷◌}
use native.Mathlib.Omega.{arith}
use lib.Dec.{lit<}
use Rattle.answers.specs.Call.{told}
use Rattle.answers.specs.Rows.{over}
use Rattle.tables.specs.Sheet.{from, to}
use Rattle.theory.specs.Flow.{Flow, here, step}
use Rattle.theory.proofs.Flows.{flow_closed}
use Rattle.theory.proofs.Chains.{best_alone}
use Rattle.separations.specs.Shown.{Shown, shown, missing}
use Rattle.separations.specs.Judgement.{AllHold, judged, Judgement, hold, broken}

pub data Hop : ℕ → ℕ → Type 0 where
  hop01 : Hop 0 1
  hop12 : Hop 1 2

-- nothing leads down
pub rises : {x y : ℕ} → Flow Hop x y → x ≤ y
rises {x} f = flow_closed (λ z. x ≤ z) (omega arith) (λ a b h c. up a b h c) f
  where
    up : (a b : ℕ) → x ≤ a → Hop a b → x ≤ b
    up _ _ h hop01 = omega arith
    up _ _ h hop12 = omega arith

-- 3 is left by nothing
into_3 : {x : ℕ} → Flow Hop x 3 → 3 ≤ x
into_3 {x} f = go (last f)
  where
    low : (a b : ℕ) → Hop a b → b ≤ 2
    low _ _ hop01 = omega arith
    low _ _ hop12 = omega arith

    last : {z : ℕ} → Flow Hop x z → (3 ≤ z → 3 ≤ x)
    last here h = h
    last (step g c) h = absurd (omega (arith, low _ _ c))

    go : (3 ≤ 3 → 3 ≤ x) → 3 ≤ x
    go h = h (omega arith)

-- from 1 to 1 it is 1 alone, and the rest of the buffer stays
pub alone_shown : Shown Hop 1 1 (9 ∷ 9 ∷ []) (told 0 1, 1 ∷ 9 ∷ [])
unfolding over
alone_shown = shown (1 ∷ []) best_alone refl

-- no chain: 13, count 0, and the buffer as it was
pub nothing_shown : Shown Hop 2 0 (9 ∷ 9 ∷ []) (told 13 0, 9 ∷ 9 ∷ [])
nothing_shown = missing (λ f. omega (arith, rises f)) refl

-- 2 to 0 and 0 to 3 hold
pub all_hold : Judgement Hop 2 (2 ∷ 0 ∷ 0 ∷ 3 ∷ []) (9 ∷ []) (judged 0 0 0, 9 ∷ [])
all_hold = hold each refl
  where
    each : AllHold Hop 2 (2 ∷ 0 ∷ 0 ∷ 3 ∷ [])
    each zero h f = omega (arith, rises f)
    each (suc zero) h f = omega (arith, into_3 f)
    each (suc (suc j)) h f = omega arith

-- 1 to 0 and 2 to 0 hold; 2 to 2, at position 2, is broken, and so is what follows
abbrev pub four : List ℕ
four = 1 ∷ 0 ∷ 2 ∷ 0 ∷ 2 ∷ 2 ∷ 0 ∷ 1 ∷ []

-- "The first broken one is answered by 14, its position from 0 and its chain": of these four it is position 2, and its chain 2 alone
pub third_broken : Judgement Hop 4 four (9 ∷ 9 ∷ []) (judged 14 2 1, 2 ∷ 9 ∷ [])
unfolding over
third_broken = broken 2 (2 ∷ []) (record { below = lit< tt; broken = here; before = these_hold }) best_alone refl
  where
    these_hold : (j : ℕ) → j < 2 → Flow Hop (from four j) (to four j) → ⊥
    these_hold zero h f = omega (arith, rises f)
    these_hold (suc zero) h f = omega (arith, rises f)
    these_hold (suc (suc j)) h f = omega arith
