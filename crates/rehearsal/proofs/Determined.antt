-- "prove that no second answer satisfies it": of `rehearse` and of `rehearse_records`.
use Prim.Native.Nat.{ℕ}
use mathlib.Core.Path.{◌≡◌}
use mathlib.Core.List.{List}
use Rattle.answers.proofs.Calls.{determined}
use Rattle.tables.specs.Sheet.{Lent}
use Rattle.transfers.specs.declared.Transfer.{Transfer}
use Rattle.transfers.specs.declared.Tally.{Tally}
use Rattle.transfers.specs.Rehearse.{Rehearsed}
use Rattle.transfers.proofs.Determined.{one_rehearsal}
use Rattle.transfers.proofs.Acting.{one_act}
use Rattle.rehearsal.specs.Calls.{RehearsesFlat, RehearsesRecords}

module _ (l : Lent) {marks verdicts : List ℕ} {t : Tally} {r r' : Rehearsed} where
  -- "no second answer satisfies it": two results of `rehearse` on the same input are equal: answer, count, marks, verdict bytes and tally
  pub rehearse_determined : (transfers : List ℕ) →
      RehearsesFlat l transfers marks verdicts t r → RehearsesFlat l transfers marks verdicts t r' → r ≡ r'
  rehearse_determined transfers = determined (λ _ p q. one_rehearsal one_act p q)

  -- "no second answer satisfies it": two results of `rehearse_records` on the same input are equal: answer, count, marks, verdicts and tally
  pub rehearse_records_determined : (transfers : List Transfer) →
      RehearsesRecords l transfers marks verdicts t r → RehearsesRecords l transfers marks verdicts t r' → r ≡ r'
  rehearse_records_determined transfers = determined (λ _ p q. one_rehearsal one_act p q)
