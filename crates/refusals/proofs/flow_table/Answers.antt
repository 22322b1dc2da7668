-- `refusals::flow_table` meets its contract: one half of the list, and then the other.
use mathlib.Core.Path.{sym, ◌∙◌}
use Rattle.answers.proofs.Exits.{exit_code, first_stops, first_passes}
use Rattle.answers.specs.Sizes.{most_entities}
use Rattle.answers.proofs.Products.{product_within}
use Rattle.tables.specs.FlowTable.{flow_refusals}
use Rattle.refusals.proofs.Refusing.{flow_size_numbered, sized}
use Rattle.refusals.proofs.flow_table.Goals as goal

pub returns-in_err-check_flow_sizes-clause-judged : goal.returns-in_err-check_flow_sizes-clause-judged
unfolding flow_refusals
returns-in_err-check_flow_sizes-clause-judged c = exit_code _ _ c.from_residual.ensures.1 ∙ first_stops _ _ _ c.in_err-check_flow_sizes.ensures

pub invariant_of-square : goal.invariant_of-square
invariant_of-square c =
    let s = sized _ _ _ (sym c.in_ok-check_flow_sizes.ensures) in
    record { few = s.few; room = product_within _ _ most_entities most_entities _ s.few s.few s.room }

pub returns-in_err-check_bytes-clause-judged : goal.returns-in_err-check_bytes-clause-judged
unfolding flow_refusals
returns-in_err-check_bytes-clause-judged c =
    exit_code _ _ c.from_residual-in_err-check_bytes.ensures.1
    ∙ first_passes _ _ _ (flow_size_numbered _ _ _) c.in_ok-check_flow_sizes.ensures c.in_err-check_bytes.ensures

pub returns-clause-judged : goal.returns-clause-judged
unfolding flow_refusals
returns-clause-judged c = first_passes _ _ _ (flow_size_numbered _ _ _) c.in_ok-check_flow_sizes.ensures c.in_ok-check_bytes.ensures
