-- The words of demand 3, for the calls.
use Rattle.std.specs.Prelude.{ℕ, ◌≡◌, false, List, length}
use Rattle.answers.specs.Call.{first_refusal}
use Rattle.tables.specs.Sheet.{Lent}
use Rattle.tables.specs.Refusals.{sheet_refusals}
use Rattle.transfers.specs.declared.Tally.{Tally}
use Rattle.transfers.specs.Transfers.{flat_bytes}
use Rattle.transfers.specs.Rehearse.{Rehearsed, tally_refusals, rehearsal_short}
use Rattle.transfers.specs.Demand3.{chain_transfers}
use Rattle.rehearsal.specs.Calls.{RehearsesFlat, RehearsesRecords}

-- "one sound sheet, .. and one tally": nothing is refused but, perhaps, the transfer list
pub record Ready (l : Lent) (marks verdicts : List ℕ) (t : Tally) : Type 0 where
  pub sheet : first_refusal (sheet_refusals (rehearsal_short (length marks) (length verdicts)) false l) ≡ 0
  pub tally : first_refusal (tally_refusals t) ≡ 0

-- "rehearsal of the shown chain's transfers", as records
abbrev pub RehearsesChain : Lent → List ℕ → List ℕ → List ℕ → Tally → Rehearsed → Type 0
RehearsesChain l chain = RehearsesRecords l (chain_transfers l.counts chain)

-- and as flat bytes
abbrev pub RehearsesChainFlat : Lent → List ℕ → List ℕ → List ℕ → Tally → Rehearsed → Type 0
RehearsesChainFlat l chain = RehearsesFlat l (flat_bytes (chain_transfers l.counts chain))
