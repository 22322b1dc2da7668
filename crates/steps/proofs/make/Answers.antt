-- `steps::make` meets its contract: an act that is no move changes no mark.
use Rattle.steps.proofs.Coming.{still}
use Rattle.steps.proofs.make.Goals as goal

pub returns-in_default : goal.returns-in_default
returns-in_default c = still _ c.in_default.not-Moves
