-- `change::check_change` meets its contract: one list, and then the other.
use mathlib.Core.Path.{◌∙◌}
use Rattle.answers.proofs.Exits.{exit_code, first_stops, first_passes}
use Rattle.tables.proofs.Accepted.{sheet_numbered}
use Rattle.change.specs.Change.{change_refusals}
use Rattle.change.proofs.check_change.Goals as goal

pub returns-in_err-check_sheet : goal.returns-in_err-check_sheet
unfolding change_refusals
returns-in_err-check_sheet c = exit_code _ _ c.from_residual.ensures.1 ∙ first_stops _ _ _ c.in_err-check_sheet.ensures

pub returns : goal.returns
unfolding change_refusals
returns c = first_passes _ _ _ (sheet_numbered _ _ _) c.in_ok-check_sheet.ensures c.check.ensures
