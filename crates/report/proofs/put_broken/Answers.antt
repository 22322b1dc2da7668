-- `report::put_broken` meets its contract: the head's digits and the chain's line are one line.
use native.Mathlib.Omega.{arith}
use mathlib.Core.Path.{sym}
use lib.Seq.{length-take-le}
use Rattle.digits.specs.Digit.{to_digits}
use Rattle.digits.proofs.Puts.{line_then}
use Rattle.report.proofs.put_broken.Goals as goal

pub slice_bounds-put_line-end : goal.slice_bounds-put_line-end
slice_bounds-put_line-end c =
    sym (length-take-le _ c.args.chain.now (omega arith))

pub put_line-requires : goal.put_line-requires
unfolding to_digits
put_line-requires c =
    omega (arith, c.requires, c.put_bytes-end.ensures.place, length-take-le c.args.breach.count c.args.chain.now (omega (arith, c.requires)))

pub returns : goal.returns
returns c = line_then _ _ c.put_bytes-end.ensures c.put_line.ensures
