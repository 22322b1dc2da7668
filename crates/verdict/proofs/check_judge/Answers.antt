-- `verdict::check_judge` meets its contract: the tables, and then the separations.
use mathlib.Core.Path.{sym, ◌∙◌}
use Rattle.answers.proofs.Exits.{exit_code, first_stops, first_passes}
use Rattle.tables.proofs.Accepted.{sheet_numbered, tables_passed}
use Rattle.verdict.specs.Judge.{judge_refusals}
use Rattle.verdict.proofs.Judging.{both_long}
use Rattle.verdict.proofs.check_judge.Goals as goal

pub returns-in_err-check_sheet : goal.returns-in_err-check_sheet
unfolding judge_refusals
returns-in_err-check_sheet c =
    exit_code _ _ c.from_residual.ensures.1 ∙ first_stops _ _ _ (rw c.some_short.ensures at c.in_err-check_sheet.ensures)

pub entities-requires : goal.entities-requires
entities-requires c = (tables_passed _ _ _ (sym c.in_ok-check_sheet.ensures)).sized.counts_fit

pub check_separations-requires : goal.check_separations-requires
check_separations-requires c = (both_long _ c.args.separations.count _ _ (sym (rw c.some_short.ensures at c.in_ok-check_sheet.ensures))).0

pub returns : goal.returns
unfolding judge_refusals
returns c =
    first_passes _ _ _ (sheet_numbered _ _ _) (rw c.some_short.ensures at c.in_ok-check_sheet.ensures) (rw c.entities.ensures at c.check_separations.ensures)
