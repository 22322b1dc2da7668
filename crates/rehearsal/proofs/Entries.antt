-- "a thin second entry takes a list of transfer records .. and answers the same": each result of one entry is a result of the other,
-- at every length of the list.
use Prim.Native.Nat.{ℕ, ◌%◌}
use mathlib.Core.Path.{◌≡◌, sym, ap, ◌∙◌}
use mathlib.Core.List.{List}
use lib.ListN.{length}
use Rattle.answers.specs.Call.{Refusal, first_refusal, Outcome}
use Rattle.tables.specs.Sheet.{Lent}
use Rattle.transfers.specs.declared.Transfer.{Transfer}
use Rattle.transfers.specs.declared.Tally.{Tally}
use Rattle.transfers.specs.Transfers.{flat_transfers, flat_bytes}
use Rattle.transfers.specs.Rehearse.{Rehearsed}
use Rattle.rehearsal.specs.Calls.{RehearsesFlat, RehearsesRecords}
use Rattle.transfers.proofs.FlatBytes.{flat_and_back, back_and_flat}
use Rattle.rehearsal.proofs.Accepted.{entries_refuse_alike}

-- of an outcome only the first refusal and what is done count
pub outcome_agrees : {R : Type 0} {refusals refusals' : List Refusal} {refused : ℕ → R} {Done Done' : R → Type 0} {r : R} →
    first_refusal refusals ≡ first_refusal refusals' → (Done r → Done' r) → Outcome refusals refused Done r → Outcome refusals' refused Done' r
outcome_agrees {refused = refused} e done o =
    record { refusal = λ some. o.refusal (λ none. some (sym e ∙ none)) ∙ ap refused e; done = λ none. done (o.done (e ∙ none)) }

module _ (l : Lent) (marks verdicts : List ℕ) (t : Tally) {r : Rehearsed} where
  module _ (ts : List Transfer) where
    -- "and answers the same": each result of `rehearse` on the flat bytes of records is one of `rehearse_records` on the records
    pub flat_as_records : RehearsesFlat l (flat_bytes ts) marks verdicts t r → RehearsesRecords l ts marks verdicts t r
    flat_as_records = outcome_agrees (entries_refuse_alike l ts marks verdicts t) (λ d. rw (flat_and_back ts) at d)

    -- "and answers the same": each result of `rehearse_records` on records is one of `rehearse` on their flat bytes
    pub records_as_flat : RehearsesRecords l ts marks verdicts t r → RehearsesFlat l (flat_bytes ts) marks verdicts t r
    records_as_flat = outcome_agrees (sym (entries_refuse_alike l ts marks verdicts t)) (λ d. rw (flat_and_back ts) d)

  -- and so for every flat list of whole threes
  module _ (bytes : List ℕ) (whole : length bytes % 3 ≡ 0) where
    -- "and answers the same": each result of `rehearse` on bytes in whole threes is one of `rehearse_records` on the transfers that they are
    pub threes_as_records : RehearsesFlat l bytes marks verdicts t r → RehearsesRecords l (flat_transfers bytes) marks verdicts t r
    threes_as_records o = flat_as_records (flat_transfers bytes) (rw (back_and_flat bytes whole) o)

    -- "and answers the same": each result of `rehearse_records` on transfers read from whole threes is one of `rehearse` on those bytes
    pub records_as_threes : RehearsesRecords l (flat_transfers bytes) marks verdicts t r → RehearsesFlat l bytes marks verdicts t r
    records_as_threes o = rw (back_and_flat bytes whole) at (records_as_flat (flat_transfers bytes) o)
