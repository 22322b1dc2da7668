-- The chain that is written for one relation of channels is written for another with the same pairs, and there is one.
use Prim.Native.Nat.{ℕ, ◌<◌}
use mathlib.Core.List.{List}
use native.Mathlib.Omega.{arith}
use Rattle.answers.specs.Rows.{over}
use Rattle.theory.proofs.Chains.{chain_flow, chain_long, one_best, best_agrees}
use lib.ListN.{length}
use Rattle.std.specs.Prelude.{Option, Some}
use mathlib.Core.Path.{◌≡◌, sym, ap, ◌∙◌}
use Rattle.theory.proofs.Flows.{flow_more}
use Rattle.chains.specs.Shown.{ShownChain, shown, missing}
use Rattle.theory.specs.Laws.{Contains}

module _ {ch ch' : ℕ → ℕ → Type 0} (to : Contains ch' ch) (back : Contains ch ch') where
  pub chain_agrees : {x y : ℕ} {count : Option ℕ} {before after : List ℕ} → ShownChain ch x y before after count → ShownChain ch' x y before after count
  chain_agrees (shown l b e w) = shown l (best_agrees to back b) e w
  chain_agrees {x} {y} (missing no' e w) = missing (λ f. no' (flow_more back x y f)) e w

module _ {ch : ℕ → ℕ → Type 0} where
  pub one_shown : {x y : ℕ} {count count' : Option ℕ} {before after after' : List ℕ} → ShownChain ch x y before after count →
      ShownChain ch x y before after' count' → (count ≡ count') × (after ≡ after')
  one_shown {before = before} (shown l b e w) (shown l' b' e' w') =
      let same = one_best b b' in
      (e ∙ ap (λ (t : List ℕ). Some (length t)) same ∙ sym e', w ∙ ap (λ (t : List ℕ). over t before) same ∙ sym w')
  one_shown (shown l b e w) (missing no' e' w') = absurd (no' (chain_flow b.chain))
  one_shown (missing no' e w) (shown l b e' w') = absurd (no' (chain_flow b.chain))
  one_shown (missing no' e w) (missing no'' e' w') = (e ∙ sym e', w ∙ sym w')

  -- a chain has some entity
  pub some_shown : {x y k : ℕ} {before after : List ℕ} → ShownChain ch x y before after (Some k) → 0 < k
  some_shown {k = k} (shown l b e w) = let same : k ≡ length l = cc in omega (arith, chain_long b.chain)
  some_shown (missing no' e w) = cc
