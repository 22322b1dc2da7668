-- `checking::check_text` meets its contract: the lines that are left, read on from what is known, come to what the whole text comes to.
use Rattle.parsing.specs.Inner.{lines_left}
use Rattle.checking.proofs.Turns.{Checking}
use Rattle.checking.proofs.check_text.Given as goal

abbrev pub invariant-loop-line : goal.invariant-loop-line
invariant-loop-line l = Checking l.text l.k (lines_left l.line-iterator)
