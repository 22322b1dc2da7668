-- `answers::some_above` meets its contract: so far it says whether a byte that it passed is above `most`.
use mathlib.Core.Path.{sym}
use Prim.Native.Nat.{◌<◌}
use native.Mathlib.Omega.{arith}
use Rattle.std.proofs.lemmas.List.{get_or-take, length-take-le}
use Rattle.answers.proofs.Below.{none_yet, so_far, to_the_end}
use Rattle.answers.proofs.some_above.Goals as goal

pub loop-byte-init : goal.loop-byte-init
loop-byte-init c = sym (none_yet _)

pub loop-byte-preserved : goal.loop-byte-preserved
loop-byte-preserved c =
    let whole = length-take-le c.args.used c.args.bytes.now c.requires in
    let below : c.loop-byte.byte-index < c.args.used = omega (arith, whole, c.loop-byte-test.true) in
    rw (get_or-take c.args.used c.args.bytes.now c.loop-byte.byte-index 0 below) (so_far _ _ _ c.loop-byte.invariant)

pub returns : goal.returns
returns c =
    let whole = length-take-le c.args.used c.args.bytes.now c.requires in
    to_the_end _ c.args.used c.loop-byte.byte-index _
    (omega (arith, whole, c.loop-byte.auto.byte-index-end)) (omega (arith, whole, c.loop-byte-test.false)) c.loop-byte.invariant
