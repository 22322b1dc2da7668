-- `verdict::check_chain` meets its contract: the tables, and then the entities.
use mathlib.Core.Path.{sym, ◌∙◌}
use Rattle.answers.proofs.Exits.{exit_code, first_stops, first_passes}
use Rattle.tables.proofs.Accepted.{sheet_numbered, tables_passed}
use Rattle.verdict.specs.Chain.{chain_refusals}
use Rattle.verdict.proofs.check_chain.Goals as goal

pub returns-in_err-check_sheet : goal.returns-in_err-check_sheet
unfolding chain_refusals
returns-in_err-check_sheet c = exit_code _ _ c.from_residual.ensures.1 ∙ first_stops _ _ _ c.in_err-check_sheet.ensures

pub entities-n-requires : goal.entities-n-requires
entities-n-requires c = (tables_passed _ _ _ (sym c.in_ok-check_sheet.ensures)).sized.counts_fit

pub returns : goal.returns
unfolding chain_refusals
returns c =
    first_passes _ _ _ (sheet_numbered _ _ _) c.in_ok-check_sheet.ensures (rw c.entities-n.ensures at c.first_refused.ensures)
