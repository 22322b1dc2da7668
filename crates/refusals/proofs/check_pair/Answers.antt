-- `refusals::check_pair` meets its contract: its rules are those of the list.
use Rattle.tables.specs.Refusals.{pair_refusals}
use Rattle.refusals.proofs.check_pair.Goals as goal

pub returns : goal.returns
unfolding pair_refusals
returns c = rw (c.pair-from.ensures.0, c.pair-from.ensures.1, c.is_late-late.ensures) at c.first_refused.ensures
