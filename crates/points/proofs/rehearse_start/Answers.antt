-- `points::rehearse_start` is safe: the part is within the list.
use mathlib.Core.Path.{sym}
use native.Mathlib.Omega.{arith}
use lib.Seq.{length-take-le}
use Rattle.points.proofs.rehearse_start.Goals as goal

pub slice_bounds-rehearse-end : goal.slice_bounds-rehearse-end
slice_bounds-rehearse-end c = sym (length-take-le _ _ (omega arith))
