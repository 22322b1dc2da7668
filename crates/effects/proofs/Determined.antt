-- Each contract determines the answer and every lent byte.
use mathlib.Core.Path.{◌≡◌, sym, ap, ◌∙◌}
use mathlib.Core.Bool.{Bool, true, false, cond}
use mathlib.Core.List.{List}
use Prim.Native.Nat.{ℕ, ◌+◌, ◌*◌}
use denote.Ref.{Bor}
use Rattle.answers.specs.Rows.{over}
use Rattle.answers.specs.Part.{Part, SamePart}
use Rattle.answers.proofs.Calls.{determined}
use Rattle.answers.proofs.Marks.{one_row}
use Rattle.answers.proofs.Parts.{one_part}
use Rattle.theory.proofs.Effects.{one_effect}
use Rattle.effects.specs.Effects.{Affects}
use Rattle.effects.specs.ChosenRow.{can_choose, chosen, ChosenRow}

-- "no second answer satisfies it": two results of `effect` on the same input are equal, the answer and the effect buffer
pub effect_determined : (n : ℕ) (before after effect : List ℕ) (r₁ r₂ : ℕ × List ℕ) → Affects n before after effect r₁ → Affects n before after effect r₂ → r₁ ≡ r₂
effect_determined n before after effect r₁ r₂ =
    determined (λ _ a b. a.written ∙ ap (λ (row : List ℕ). (0, over row effect)) (one_row (λ _ _ _. one_effect) a.effects b.effects) ∙ sym b.written)

-- "no second answer satisfies it": two parts that `chosen_row` may hand back on the same input are the same bytes at the same place
pub chosen_row_determined : (before after : Bor (List ℕ)) (n choice x : ℕ) (r₁ r₂ : Bor (List ℕ)) →
    ChosenRow before after n choice x r₁ → ChosenRow before after n choice x r₂ → SamePart r₁ r₂
unfolding ChosenRow
chosen_row_determined before after n choice x r₁ r₂ = go (can_choose before.now after.now n choice x)
  where
    go : (t : Bool) → cond t (Part (chosen before after choice) (x * n) (x * n + n) r₁) (Part before 0 0 r₁) →
        cond t (Part (chosen before after choice) (x * n) (x * n + n) r₂) (Part before 0 0 r₂) → SamePart r₁ r₂
    go true p q = one_part p q
    go false p q = one_part p q
