-- `reader::fill` meets its contract: the tables hold what was read, and the lines that are left add up to what the whole text says.
use native.Mathlib.Omega.{arith}
use Prim.Native.Nat.{◌<◌, ◌^◌}
use lib.ListN.{length}
use Rattle.reader.proofs.Fills.{filling_start, is_frame, line_passes, filling_next, still_long, filling_done}
use Rattle.reader.proofs.fill.Goals as goal

pub loop-line-init : goal.loop-line-init
loop-line-init c = rw c.into_iter-line-iterator.ensures.into_iter_gives (filling_start _ _ _ c.start-k.ensures c.requires.text_value)

pub unwrap-frame-requires : goal.unwrap-frame-requires
unwrap-frame-requires c = is_frame _ _ _ _ _ c.loop-line.invariant _ _ c.in-Some.ensures.steps

pub store_frame-requires : goal.store_frame-requires
store_frame-requires c =
    let t = c.args.text.now in
    let short : length t < 2 ^ 63 = omega (arith, c.well_formed) in
    record {
      passes = line_passes t _ _ _ _ c.loop-line.invariant _ _ _ c.in-Some.ensures.steps c.unwrap-frame.ensures short;
      long_tables = still_long _ _ _ _ _ c.loop-line.invariant c.requires.long_tables;
    }

pub loop-line-preserved : goal.loop-line-preserved
loop-line-preserved c =
    let k = c.store_frame.auto in
    filling_next _ _ _ _ _ c.loop-line.invariant _ _ _ c.in-Some.ensures.steps c.unwrap-frame.ensures _ _ c.state_after-k.ensures c.store_frame.ensures k.assignment k.permission k.separations

pub returns : goal.returns
returns c = filling_done _ _ _ _ _ c.loop-line.invariant c.in-None.ensures.steps.0 c.requires.long_tables
