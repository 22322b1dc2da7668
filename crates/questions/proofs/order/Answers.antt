-- `questions::order` meets its contract: each arm by the bytes there and back.
use Rattle.theory.specs.Order.{both, only_there, only_back, neither}
use Rattle.questions.proofs.Standing.{flows_by, no_flow_by}
use Rattle.questions.proofs.order.Goals as goal

pub returns-in-true-true : goal.returns-in-true-true
returns-in-true-true c =
    both (flows_by _ _ _ _ c.requires.0 c.requires.1 c.in-true-true.ensures) (flows_by _ _ _ _ c.requires.1 c.requires.0 c.in-true-true.ensures')

pub returns-in-true-false : goal.returns-in-true-false
returns-in-true-false c = only_there (flows_by _ _ _ _ c.requires.0 c.requires.1 c.in-true-false.ensures) (no_flow_by _ _ _ _ c.in-true-false.ensures')

pub returns-in-false-true : goal.returns-in-false-true
returns-in-false-true c = only_back (no_flow_by _ _ _ _ c.in-false-true.ensures) (flows_by _ _ _ _ c.requires.1 c.requires.0 c.in-false-true.ensures')

pub returns-in-false-false : goal.returns-in-false-false
returns-in-false-false c = neither (no_flow_by _ _ _ _ c.in-false-false.ensures) (no_flow_by _ _ _ _ c.in-false-false.ensures')
