-- `digits::put_bytes` meets its contract. The loop's invariant: the digits of the bytes passed are written.
use Prim.Native.Nat.{◌+◌, ◌*◌}
use lib.ListN.{take}
use Rattle.digits.specs.Digit.{to_digits}
use Rattle.digits.specs.Inner.{Put}
use Rattle.digits.proofs.put_bytes.Given as goal

abbrev pub invariant-loop-i : goal.invariant-loop-i
invariant-loop-i l = Put (to_digits (take l.i l.bytes)) l.at l.initial.text (l.at + 2 * l.i) l.text
