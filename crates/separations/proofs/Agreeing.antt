-- Channels of the same pairs have the same judgement.
use Prim.Native.Nat.{ℕ}
use mathlib.Core.List.{List}
use Rattle.theory.proofs.Flows.{flow_more}
use Rattle.theory.proofs.Chains.{best_agrees}
use Rattle.separations.specs.declared.Judged.{Judged}
use Rattle.separations.specs.Judgement.{Judgement, hold, broken}
use Rattle.theory.specs.Laws.{Contains}

module _ {ch ch' : ℕ → ℕ → Type 0} (to' : Contains ch' ch) (back : Contains ch ch') {count : ℕ} {separations before : List ℕ} {result : Judged × List ℕ} where
  pub judgement_agrees : Judgement ch count separations before result → Judgement ch' count separations before result
  judgement_agrees (hold all e) = hold (λ j h b. all j h (flow_more back _ _ b)) e
  judgement_agrees (broken i l p b e) =
      broken i l
      (record { below = p.below; broken = flow_more to' _ _ p.broken; before = λ j h b. p.before j h (flow_more back _ _ b) })
      (best_agrees to' back b) e
