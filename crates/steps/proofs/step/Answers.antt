-- `steps::step` meets its contract: a move goes between marks.
use Rattle.steps.proofs.Coming.{comes_within}
use Rattle.steps.proofs.step.Goals as goal

pub make-requires : goal.make-requires
make-requires c = comes_within c.requires.marked c.come_to-act.ensures
