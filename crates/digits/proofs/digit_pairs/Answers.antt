-- `digits::digit_pairs` meets its contract: a line is pairs of digits exactly if all its bytes are digits and their count is even.
use borrow.Author.Tests.{ne_eqb}
use Rattle.digits.proofs.Pairs.{pairs_even, pairs_odd}
use Rattle.digits.proofs.digit_pairs.Goals as goal

pub returns-then-line-eq0 : goal.returns-then-line-eq0
returns-then-line-eq0 c = rw (pairs_even _ c.if-line-eq0.true) c.all_digits.ensures

pub returns-else-line-eq0 : goal.returns-else-line-eq0
returns-else-line-eq0 c = rw (pairs_odd _ c.if-line-eq0.false) (ne_eqb _ _ c.if-line-eq0.false)
