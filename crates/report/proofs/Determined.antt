-- The contract of `report` determines its answer and the lent buffer.
use Prim.Native.Nat.{ℕ}
use mathlib.Core.Path.{◌≡◌, sym, ap, ◌∙◌}
use mathlib.Core.List.{List}
use lib.ListN.{length}
use Rattle.answers.specs.declared.Told.{Told}
use Rattle.answers.specs.Call.{told}
use Rattle.answers.specs.Rows.{over}
use Rattle.answers.proofs.Calls.{determined}
use Rattle.report.specs.Report.{Reports}
use Rattle.output.proofs.Outputs.{output_determined}

-- "no second answer satisfies it": two results of `report` on the same input are equal: answer, length and every byte of the buffer
pub report_determined : (text before : List ℕ) (r₁ r₂ : Told × List ℕ) → Reports text before r₁ → Reports text before r₂ → r₁ ≡ r₂
report_determined text before r₁ r₂ =
    determined
    (λ _ a b.
    a.written ∙ ap (λ (p : List ℕ). (told 0 (length p), over p before)) (output_determined text _ _ a.output b.output) ∙ sym b.written)
