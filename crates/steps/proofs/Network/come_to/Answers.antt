-- `steps::Network::come_to` meets its contract: each return by the tests that led there.
use Rattle.std.proofs.Common.{arith}
use Rattle.transfers.specs.Transfers.{to_subject, to_object}
use Rattle.steps.proofs.Coming.{outside_numbers, outside_mode, way_comes}
use Rattle.steps.proofs.Network.come_to.Goals as goal

pub returns-then-subject-self : goal.returns-then-subject-self
returns-then-subject-self c = outside_numbers c.then-subject-self.either

pub returns-in-1 : goal.returns-in-1
returns-in-1 c = way_comes (to_subject (omega arith) (omega arith) (omega arith)) c.try_move.ensures

pub returns-in-2 : goal.returns-in-2
returns-in-2 c = way_comes (to_object (omega arith) (omega arith) (omega arith)) c.try_move-in-2.ensures

pub returns-in_default : goal.returns-in_default
returns-in_default c = outside_mode (λ e. omega arith) (λ e. omega arith)
