-- What is shown and what is judged is determined.
use Prim.Native.Nat.{ℕ}
use mathlib.Core.Path.{◌≡◌, sym, ap, ◌∙◌}
use mathlib.Core.List.{List}
use lib.ListN.{length}
use Rattle.answers.specs.declared.Told.{Told}
use Rattle.answers.specs.Call.{told}
use Rattle.answers.specs.Rows.{over}
use Rattle.theory.proofs.Chains.{chain_flow, one_best}
use Rattle.separations.specs.declared.Judged.{Judged}
use Rattle.separations.specs.Shown.{Shown, shown, missing}
use Rattle.separations.specs.Judgement.{Judgement, hold, broken}
use Rattle.separations.proofs.Verdicts.{one_finding, not_both}

pub one_shown : {ch : ℕ → ℕ → Type 0} {x y : ℕ} {before : List ℕ} {r₁ r₂ : Told × List ℕ} → Shown ch x y before r₁ → Shown ch x y before r₂ → r₁ ≡ r₂
one_shown {before = before} (shown l b e) (shown m c f) = e ∙ ap (λ (k : List ℕ). (told 0 (length k), over k before)) (one_best b c) ∙ sym f
one_shown (shown l b e) (missing none f) = absurd (none (chain_flow b.chain))
one_shown (missing none e) (shown l b f) = absurd (none (chain_flow b.chain))
one_shown (missing none e) (missing none' f) = e ∙ sym f

module _ {ch : ℕ → ℕ → Type 0} {count : ℕ} {separations before : List ℕ} where
  pub one_judgement : {r₁ r₂ : Judged × List ℕ} → Judgement ch count separations before r₁ → Judgement ch count separations before r₂ → r₁ ≡ r₂
  one_judgement (hold all e) (hold all' f) = e ∙ sym f
  one_judgement (hold all e) (broken i l p b f) = absurd (not_both p all)
  one_judgement (broken i l p b e) (hold all f) = absurd (not_both p all)
  one_judgement (broken i l p b e) (broken j m q c f) = let same = one_finding p q b c in e ∙ rw (same.0, same.1) (sym f)
