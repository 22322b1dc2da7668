-- One channel, from 0 to 1, said in two ways: what is shown of one relation is shown of the other, and nothing else is.
use Prim.Native.Nat.{ℕ, ◌<◌}
use mathlib.Core.Path.{◌≡◌, refl}
use Rattle.std.specs.Prelude.{Option, Some, None}
use mathlib.Core.List.{List, [], ◌∷◌}
use native.Mathlib.Omega.{arith}
use Rattle.answers.specs.Rows.{over}
use Rattle.theory.specs.Flow.{Flow}
use Rattle.theory.proofs.Flows.{flow_closed}
use Rattle.theory.proofs.Chains.{best_alone}
use Rattle.chains.specs.Shown.{ShownChain, shown, missing}
use Rattle.chains.proofs.Relations.{chain_agrees, one_shown, some_shown}
use Rattle.theory.specs.Laws.{Contains}

data Hop : ℕ → ℕ → Type 0 where
  hop : Hop 0 1

abbrev Pair : ℕ → ℕ → Type 0
Pair a b = (a ≡ 0) × (b ≡ 1)

to : Contains Pair Hop
to _ _ hop = (refl, refl)

back : Contains Hop Pair
back a b (p, q) = rw p (rw q hop)

-- from 1 to 1 it is 1 alone, and the rest of the buffer stays
alone : ShownChain Hop 1 1 (9 ∷ 9 ∷ []) (1 ∷ 9 ∷ []) (Some 1)
unfolding over
alone = shown (1 ∷ []) best_alone refl refl

-- nothing leads away from 1
none_back : Flow Hop 1 0 → ⊥
none_back f = omega (arith, flow_closed (λ z. z ≡ 1) refl (λ a b h c. stays a b h c) f)
  where
    stays : (a b : ℕ) → a ≡ 1 → Hop a b → b ≡ 1
    stays _ _ h hop = refl

nothing : ShownChain Hop 1 0 (9 ∷ 9 ∷ []) (9 ∷ 9 ∷ []) None
nothing = missing none_back refl refl

-- the laws at both
alone_too : ShownChain Pair 1 1 (9 ∷ 9 ∷ []) (1 ∷ 9 ∷ []) (Some 1)
alone_too = chain_agrees to back alone

nothing_too : ShownChain Pair 1 0 (9 ∷ 9 ∷ []) (9 ∷ 9 ∷ []) None
nothing_too = chain_agrees to back nothing

only : {after : List ℕ} {count : Option ℕ} → ShownChain Hop 1 1 (9 ∷ 9 ∷ []) after count → (Some 1 ≡ count) × (1 ∷ 9 ∷ [] ≡ after)
only c = one_shown alone c

some : 0 < 1
some = some_shown alone
