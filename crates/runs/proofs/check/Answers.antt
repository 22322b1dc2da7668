-- `runs::check` meets its contract: the refusals of the tables, then 15, then 17.
use Rattle.std.proofs.Common.{◌∙◌}
use Rattle.answers.specs.Call.{◌then◌}
use Rattle.answers.proofs.Exits.{exit_code, first_stops, first_passes}
use Rattle.tables.proofs.Accepted.{sheet_numbered}
use Rattle.transfers.specs.Rehearse.{tally_refusals}
use Rattle.runs.specs.Inner.{tested_refusals}
use Rattle.runs.proofs.check.Goals as goal

pub returns-in_err-check_sheet : goal.returns-in_err-check_sheet
unfolding tested_refusals
returns-in_err-check_sheet g c =
    let e = rw (c.few_lent.ensures, c.is_over.ensures) at c.in_err-check_sheet.ensures in
    exit_code _ _ c.from_residual.ensures.1 ∙ first_stops _ _ _ e

pub returns : goal.returns
unfolding tested_refusals tally_refusals ◌then◌
returns g c =
    let e = rw (c.few_lent.ensures, c.is_over.ensures) at c.in_ok-check_sheet.ensures in
    first_passes _ _ _ (sheet_numbered _ _ _) e (rw c.is_ragged.ensures at c.first_refused.ensures)
