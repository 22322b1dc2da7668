-- `Change::between` meets its contract: the table before, and then the one after.
use mathlib.Core.Path.{sym, ◌∙◌}
use Rattle.answers.proofs.Exits.{exit_code, first_stops, first_passes}
use Rattle.tables.proofs.FlowTables.{flow_numbered, square_within}
use Rattle.effects.specs.Effects.{effect_refusals}
use Rattle.effects.proofs.Passed.{after_sized}
use Rattle.effects.proofs.Change.between.Goals as goal

pub returns-in_err-before-clause-judged : goal.returns-in_err-before-clause-judged
unfolding effect_refusals
returns-in_err-before-clause-judged c =
    exit_code _ _ c.from_residual.ensures.1 ∙ first_stops _ _ _ (rw c.is_short.ensures at c.in_err-before.ensures.judged)

pub invariant_of-after : goal.invariant_of-after
invariant_of-after c =
    let sized = (after_sized _ _ _ _ _ c.is_short.ensures (sym c.in_ok-before.ensures.judged)).0 in
    record { few = sized.few; room = square_within _ _ sized }

pub returns-in_err-check_bytes-clause-judged : goal.returns-in_err-check_bytes-clause-judged
unfolding effect_refusals
returns-in_err-check_bytes-clause-judged c =
    exit_code _ _ c.from_residual-in_err-check_bytes.ensures.1
    ∙ first_passes _ _ _ (flow_numbered _ _ _) (rw c.is_short.ensures at c.in_ok-before.ensures.judged) c.in_err-check_bytes.ensures

pub returns-clause-judged : goal.returns-clause-judged
unfolding effect_refusals
returns-clause-judged c =
    first_passes _ _ _ (flow_numbered _ _ _) (rw c.is_short.ensures at c.in_ok-before.ensures.judged) c.in_ok-check_bytes.ensures
