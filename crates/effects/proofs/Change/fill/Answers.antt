-- `Change::fill` meets its contract: the bytes of the used part are the effects, and those behind it are as they were.
use Prim.Native.Nat.{◌≤◌}
use mathlib.Core.Path.{◌≡◌}
use native.Mathlib.Omega.{arith}
use lib.ListN.{length}
use lib.Seq.{length-take-le}
use Rattle.answers.specs.Rows.{over}
use Rattle.answers.proofs.FilledBytes.{bytes_row}
use Rattle.effects.proofs.Change.fill.Goals as goal

pub returns : goal.returns
unfolding over
returns c =
    let room : c.args.self.after.n ≤ length c.args.effect.now = omega (arith, c.args.self.after.few) in
    let long : length c.loop-x.byte-items ≡ c.args.self.after.n = omega (arith, length-take-le _ _ room) in
    let all : c.loop-x.x ≡ c.args.self.after.n = omega arith in
    record { row = c.loop-x.byte-items; effects = bytes_row long (rw all at c.loop-x.invariant); written = rw long }
