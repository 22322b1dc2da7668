-- `Change::fill` meets its contract: the bytes passed are the effects.
use Rattle.answers.specs.Rows.{Bytes}
use Rattle.answers.proofs.FilledBytes.{FilledBytes}
use Rattle.theory.specs.Effect.{Effect}
use Rattle.effects.proofs.Change.fill.Given as goal

abbrev pub invariant-loop-x : goal.invariant-loop-x
invariant-loop-x l =
    let n = l.self.after.n in
    FilledBytes (Effect n (Bytes n l.self.before.bytes.now) (Bytes n l.self.after.bytes.now)) l.x l.byte-items
