-- `refusals::check_sheet` meets its contract: one half of the list, and then the other.
use mathlib.Core.Path.{sym, ◌∙◌}
use Rattle.answers.proofs.Exits.{exit_code, first_stops, first_passes}
use Rattle.tables.specs.Refusals.{sheet_refusals}
use Rattle.refusals.proofs.Tabled.{size_numbered, measured}
use Rattle.refusals.proofs.check_sheet.Goals as goal

pub returns-in_err-check_sizes : goal.returns-in_err-check_sizes
unfolding sheet_refusals
returns-in_err-check_sizes c = exit_code _ _ c.from_residual.ensures.1 ∙ first_stops _ _ _ c.in_err-check_sizes.ensures

pub check_used-requires : goal.check_used-requires
check_used-requires c = measured _ _ _ (sym c.in_ok-check_sizes.ensures)

pub returns : goal.returns
unfolding sheet_refusals
returns c = first_passes _ _ _ (size_numbered _ _ _) c.in_ok-check_sizes.ensures c.check_used.ensures
