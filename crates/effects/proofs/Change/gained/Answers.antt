-- `Change::gained` meets its contract: `any` found an entity that flows to x anew, or there is none.
use Prim.Native.Nat.{ℕ}
use Rattle.std.proofs.Common.{rules}
use Rattle.labels.proofs.Ranged.{any_from_Range}
use Rattle.effects.specs.Inner.{NewFlow}
use Rattle.effects.proofs.Affecting.{gains}
use Rattle.effects.proofs.Change.gained.Goals as goal

pub returns : goal.returns
returns c =
    let s = c.args.self in
    let new = λ (y : ℕ). NewFlow s.after.n s.before.bytes.now s.after.bytes.now y c.args.x in
    gains _ _ _ _ _ (any_from_Range _ _ _ _ new c.any.ensures.ran (λ y q h. search rules) (λ y q h. (search rules, search rules)))
