-- `digits::put_bytes` meets its contract. The loop's invariant: the digits of the bytes passed are written.
use native.Mathlib.Omega.{arith}
use Rattle.digits.proofs.Puts.{digits_none, digits_more}
use Rattle.digits.proofs.put_bytes.Goals as goal

pub loop-i-init : goal.loop-i-init
loop-i-init c = digits_none c.args.bytes.now _ _

pub loop-i-preserved : goal.loop-i-preserved
loop-i-preserved c = digits_more _ _ _ _ _ _ (omega arith) c.loop-i.invariant c.put_byte.ensures
