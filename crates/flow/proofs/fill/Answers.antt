-- `flow::fill` meets its contract: each return by what its callees answered.
use mathlib.Core.Path.{sym}
use Rattle.answers.proofs.Exits.{exit_code}
use Rattle.flow.proofs.Closing.{fillable, fill_stopped, fill_done}
use Rattle.flow.proofs.fill.Goals as goal

pub returns-in_err-check_sheet : goal.returns-in_err-check_sheet
returns-in_err-check_sheet c = fill_stopped _ _ _ (exit_code _ _ c.from_residual.ensures.1) c.in_err-check_sheet.ensures

pub close_channels-requires : goal.close_channels-requires
close_channels-requires c = fillable _ _ (sym c.in_ok-check_sheet.ensures)

pub returns : goal.returns
returns c = fill_done _ _ _ (sym c.in_ok-check_sheet.ensures) c.close_channels.ensures
