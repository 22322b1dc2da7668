-- The calls of a rehearsal: their refusals, and their contracts.
use Rattle.std.specs.Prelude.{ℕ, ◌%◌, not, List, [], ◌∷◌, eqb, length}
use Rattle.answers.specs.declared.Told.{Told}
use Rattle.answers.specs.Sizes.{most_transfers, most_transfer_bytes}
use Rattle.answers.specs.Call.{Refusal, ◌if◌, ◌then◌, Outcome, Loan, MutLoan}
use Rattle.answers.specs.Rows.{exceeds}
use Rattle.tables.specs.Sheet.{Lent, sheet_in}
use Rattle.tables.specs.Refusals.{sheet_refusals}
use Rattle.access.specs.Channel.{Channel}
use Rattle.transfers.specs.declared.Transfer.{Transfer}
use Rattle.transfers.specs.declared.Tally.{Tally}
use Rattle.transfers.specs.Transfers.{flat_transfers, Comes}
use Rattle.transfers.specs.Rehearse.{Rehearsed, rehearsed_with, not_rehearsed, Rehearses, tally_refusals, rehearsal_short}

-- "5 above 12,288 bytes"; "then 10, 15, 17 or the call's own"; "15 | a flat transfer list whose length is not a multiple of 3"
unfoldable pub rehearse_refusals : Lent → List ℕ → List ℕ → List ℕ → Tally → List Refusal
rehearse_refusals l transfers marks verdicts t =
    sheet_refusals (rehearsal_short (length marks) (length verdicts)) (exceeds (length transfers) most_transfer_bytes) l
    then ((15 if not (eqb (length transfers % 3) 0)) ∷ [])
    then tally_refusals t

-- "transfers in a rehearsal | 4,096"
unfoldable pub record_refusals : Lent → List Transfer → List ℕ → List ℕ → Tally → List Refusal
record_refusals l transfers marks verdicts t =
    sheet_refusals (rehearsal_short (length marks) (length verdicts)) (exceeds (length transfers) most_transfers) l then tally_refusals t

-- the contract of `rehearse`
abbrev pub RehearsesFlat : Lent → List ℕ → List ℕ → List ℕ → Tally → Rehearsed → Type 0
RehearsesFlat l transfers marks verdicts t =
    Outcome (rehearse_refusals l transfers marks verdicts t) (not_rehearsed marks verdicts t)
    (Rehearses (Comes l.counts (Channel (sheet_in l))) (flat_transfers transfers) marks verdicts t)

-- the contract of `rehearse_records`: "a thin second entry takes a list of transfer records .. and answers the same"
abbrev pub RehearsesRecords : Lent → List Transfer → List ℕ → List ℕ → Tally → Rehearsed → Type 0
RehearsesRecords l transfers marks verdicts t =
    Outcome (record_refusals l transfers marks verdicts t) (not_rehearsed marks verdicts t)
    (Rehearses (Comes l.counts (Channel (sheet_in l))) transfers marks verdicts t)

-- ---- what a call leaves
-- of a call with its tally by value
abbrev pub WithTally : {T : Type 0} → (Lent → List T → List ℕ → List ℕ → Tally → Rehearsed → Type 0) →
    Lent → Loan (List T) → (marks verdicts : MutLoan (List ℕ)) → Tally → Told × Tally → Type 0
WithTally Call l transfers marks verdicts tally r =
    Call l transfers.entry.now marks.entry.now verdicts.entry.now
    tally (rehearsed_with r.0 marks.exit.now verdicts.exit.now r.1)

-- of a call with a lent tally
abbrev pub WithLentTally : {T : Type 0} → (Lent → List T → List ℕ → List ℕ → Tally → Rehearsed → Type 0) →
    Lent → Loan (List T) → (marks verdicts : MutLoan (List ℕ)) → MutLoan Tally → Told → Type 0
WithLentTally Call l transfers marks verdicts tally r =
    Call l transfers.entry.now marks.entry.now verdicts.entry.now
    tally.entry.now (rehearsed_with r marks.exit.now verdicts.exit.now tally.exit.now)
