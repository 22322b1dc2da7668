-- `effects::can_choose` meets its contract: its tests are those of the definition.
use Rattle.std.proofs.Common.{rules}
use Rattle.effects.specs.ChosenRow.{can_choose}
use Rattle.effects.proofs.can_choose.Goals as goal

pub returns-then-before-ge-LEAST_FLOW : goal.returns-then-before-ge-LEAST_FLOW
unfolding can_choose
returns-then-before-ge-LEAST_FLOW c = search rules

pub returns-else-before-ge-LEAST_FLOW : goal.returns-else-before-ge-LEAST_FLOW
unfolding can_choose
returns-else-before-ge-LEAST_FLOW c = search rules
