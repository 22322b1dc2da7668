-- Marks and verdict bytes for the small sheet, and calls on them: of the shown chain, and of a list that is refused.
use Prim.Native.Nat.{ℕ}
use mathlib.Core.Path.{refl}
use mathlib.Core.List.{List, [], ◌∷◌}
use native.Mathlib.Omega.{arith}
use lib.ListN.{replicate}
use Rattle.answers.specs.Call.{first_refusal, ◌then◌}
use Rattle.answers.specs.Rows.{any_below}
use Rattle.tables.specs.Sheet.{sheet_of, entities}
use Rattle.tables.specs.Refusals.{size_refusals, used_refusals, sheet_refusals}
use Rattle.answers.proofs.Calls.{accept, refuse}
use Rattle.access.proofs.Channels.{two_sided}
use Rattle.transfers.specs.Demand3.{chain_transfers, TwoLendings, chain_moves}
use Rattle.rehearsal.specs.Demand3.{RehearsesChain, RehearsesChainFlat, Ready}
use Rattle.transfers.specs.Rehearse.{new_tally, Rehearsed, rehearsed, tally_refusals, rehearsal_short}
use Rattle.rehearsal.specs.Calls.{rehearse_refusals, record_refusals, RehearsesFlat}
use Rattle.transfers.proofs.Chains.{chain_comes}
use Rattle.rehearsal.proofs.Entries.{records_as_flat}
use Rattle.transfers.proofs.SmallNetwork.{chain, marks, starts_0, starts_1}
use Rattle.transfers.proofs.Examples.{few}
use Rattle.rehearsal.proofs.SmallSheet.{sheet, sheet_best}

abbrev pub verdicts : ℕ → List ℕ
verdicts v = replicate 4096 v

pub lent_0 : TwoLendings (entities sheet.counts) 0 (marks 7 0) (marks 9 0) (verdicts 9) (verdicts 5)
unfolding sheet
lent_0 = record { starts = starts_0; same_verdict_length = refl }

pub lent_1 : TwoLendings (entities sheet.counts) 1 (marks 7 0) (marks 7 3) (verdicts 9) (verdicts 5)
unfolding sheet
lent_1 = record { starts = starts_1; same_verdict_length = refl }

-- ---- the calls
pub ready : (a b v : ℕ) → Ready sheet (marks a b) (verdicts v) new_tally
unfolding sheet marks sheet_refusals size_refusals used_refusals ◌then◌ rehearsal_short any_below tally_refusals first_refusal
ready a b v = record { sheet = refl; tally = refl }

unfoldable pub result : ℕ → ℕ → ℕ → Rehearsed
result a b v = rehearsed (chain_moves chain) (marks a b) (verdicts v) new_tally

pub call : (a b v : ℕ) → RehearsesChain sheet chain (marks a b) (verdicts v) new_tally (result a b v)
unfolding sheet sheet_of marks result chain_transfers first_refusal record_refusals sheet_refusals size_refusals used_refusals rehearsal_short any_below tally_refusals ◌then◌
call a b v = accept refl (record { acts = _; come = chain_comes few (λ a b. two_sided) sheet_best.chain; result_is = refl })

pub call_flat : (a b v : ℕ) → RehearsesChainFlat sheet chain (marks a b) (verdicts v) new_tally (result a b v)
call_flat a b v = records_as_flat sheet (marks a b) (verdicts v) new_tally _ (call a b v)

-- one byte is no whole transfer: refused by 15, and nothing changes
unfoldable pub unchanged : ℕ → ℕ → ℕ → Rehearsed
unchanged a b v = record { answer = 15; applied = 0; marks = marks a b; verdicts = verdicts v; tally = new_tally }

pub refused : (a b v : ℕ) → RehearsesFlat sheet (0 ∷ []) (marks a b) (verdicts v) new_tally (unchanged a b v)
unfolding sheet marks sheet_refusals size_refusals used_refusals tally_refusals rehearsal_short any_below first_refusal rehearse_refusals ◌then◌ unchanged
refused a b v = refuse 15 refl (λ e. omega arith) refl
