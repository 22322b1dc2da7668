-- One act for each transfer, and so one result of a rehearsal, for any kind of transfer.
use Prim.Native.Nat.{ℕ}
use mathlib.Core.Path.{◌≡◌, refl, sym, ap, ap₂, ◌∙◌}
use mathlib.Core.List.{List, ◌∷◌}
use Rattle.transfers.specs.declared.Act.{Act}
use Rattle.transfers.specs.declared.Tally.{Tally}
use Rattle.transfers.specs.Acts.{AllCome, none, next, OneAct}
use Rattle.transfers.specs.Rehearse.{Rehearsed, rehearsed, Rehearses}

module _ {T : Type 0} {comes : T → Act → Type 0} (one : OneAct comes) where
  pub one_list : {ts : List T} {acts acts' : List Act} → AllCome comes ts acts → AllCome comes ts acts' → acts ≡ acts'
  one_list none none = refl
  one_list (next p ps) (next q qs) = ap₂ ◌∷◌ (one _ _ _ p q) (one_list ps qs)

  -- "which the step rule determines": two unrefused results of one list on the same input are equal, where each transfer comes to one act
  pub one_rehearsal : {ts : List T} {marks verdicts : List ℕ} {t : Tally} {r r' : Rehearsed} →
      Rehearses comes ts marks verdicts t r → Rehearses comes ts marks verdicts t r' → r ≡ r'
  one_rehearsal {marks = marks} {verdicts} {t} p q =
      p.result_is ∙ ap (λ acts. rehearsed acts marks verdicts t) (one_list p.come q.come) ∙ sym q.result_is
