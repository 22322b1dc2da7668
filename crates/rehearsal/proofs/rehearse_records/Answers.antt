-- `rehearsal::rehearse_records` meets its contract: records are refused as a list of whole transfers is.
use Rattle.std.proofs.Common.{◌≡◌, Bool, false, refl}
use Rattle.answers.specs.Call.{first_refusal, ◌then◌}
use Rattle.tables.specs.Sheet.{Lent}
use Rattle.tables.specs.Refusals.{size_refusals, used_refusals, sheet_refusals}
use Rattle.transfers.specs.declared.Tally.{Tally}
use Rattle.transfers.specs.Rehearse.{tally_refusals}
use Rattle.runs.specs.Inner.{tested_refusals}
use Rattle.rehearsal.specs.Calls.{record_refusals}
use Rattle.rehearsal.proofs.Entries.{outcome_agrees}
use Rattle.rehearsal.proofs.rehearse_records.Goals as goal

whole : (short long : Bool) (l : Lent) (t : Tally) → first_refusal (tested_refusals short long false l t) ≡ first_refusal (sheet_refusals short long l then tally_refusals t)
unfolding tested_refusals sheet_refusals size_refusals used_refusals first_refusal ◌then◌
whole short long l t = refl

pub returns : goal.returns
unfolding record_refusals
returns c = outcome_agrees (whole _ _ _ _) (λ d. d) c.rehearse_list.ensures
