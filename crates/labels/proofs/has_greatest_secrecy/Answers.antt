-- `labels::has_greatest_secrecy` meets its contract: `any` found an entity that x leaves for, or there is none.
use Rattle.std.proofs.Common.{rules}
use Rattle.labels.specs.Inner.{FlowsOn}
use Rattle.labels.proofs.Ranged.{any_from_Range}
use Rattle.labels.proofs.Answering.{secret}
use Rattle.labels.proofs.has_greatest_secrecy.Goals as goal

pub returns : goal.returns
returns c =
    let t = c.args.table in
    secret t.n t.bytes.now c.args.x _
    (any_from_Range _ _ _ _ (FlowsOn t.n t.bytes.now c.args.x) c.any.ensures.ran (λ y q h. search rules) (λ y q h. (search rules, search rules)))
