-- `questions::ask` meets its contract: one list, and then the other.
use mathlib.Core.Path.{◌∙◌}
use Rattle.answers.proofs.Exits.{exit_code, first_stops, first_passes}
use Rattle.tables.specs.FlowTable.{entity_refusals}
use Rattle.tables.proofs.FlowTables.{flow_numbered}
use Rattle.questions.proofs.ask.Goals as goal

pub returns-in_err-square-clause-judged : goal.returns-in_err-square-clause-judged
returns-in_err-square-clause-judged c = exit_code _ _ c.from_residual.ensures.1 ∙ first_stops _ _ _ c.in_err-square.ensures.judged

pub returns-in_err-first_refused-clause-judged : goal.returns-in_err-first_refused-clause-judged
unfolding entity_refusals
returns-in_err-first_refused-clause-judged c =
    exit_code _ _ c.from_residual-in_err-first_refused.ensures.1
    ∙ first_passes _ _ _ (flow_numbered _ _ _) c.in_ok-square.ensures.judged c.in_err-first_refused.ensures

pub returns-clause-judged : goal.returns-clause-judged
unfolding entity_refusals
returns-clause-judged c = first_passes _ _ _ (flow_numbered _ _ _) c.in_ok-square.ensures.judged c.in_ok-first_refused.ensures
