-- `flowsheet::print` is safe: the length that `report` tells is within the buffer.
use Rattle.std.proofs.Common.{arith, sym}
use lib.Seq.{length-take-le}
use Rattle.report.proofs.Reporting.{size_within, is_reported}
use Rattle.flowsheet.proofs.print.Goals as goal

pub slice_bounds-out-end : goal.slice_bounds-out-end
slice_bounds-out-end g c = omega (arith, size_within _ _ _ (rw c.unwrap-size.ensures at c.report.ensures))

pub slice_bounds-write_all-end : goal.slice_bounds-write_all-end
slice_bounds-write_all-end g c = sym (length-take-le _ c.report.new.out (omega (arith, size_within _ _ _ (rw c.unwrap-size.ensures at c.report.ensures))))

pub unwrap-size-requires : goal.unwrap-size-requires
unwrap-size-requires g c = is_reported _ _ _ _ (omega arith) c.report.ensures
