-- `labels::smallest_member` meets its contract: `find` found the smallest below x, or there is none.
use Rattle.std.proofs.Common.{rules}
use Rattle.std.proofs.lemmas.Iterator.{first_from_Range}
use Rattle.answers.specs.Rows.{Bytes}
use Rattle.theory.specs.Order.{Equivalent}
use Rattle.labels.proofs.Answering.{named}
use Rattle.labels.proofs.smallest_member.Goals as goal

pub returns : goal.returns
returns c =
    let t = c.args.table in
    rw c.unwrap_or.ensures
    (named t.n t.bytes.now c.args.x c.requires _
    (first_from_Range _ _ _ _ (Equivalent (Bytes t.n t.bytes.now) c.args.x) (λ z. Equivalent (Bytes t.n t.bytes.now) c.args.x z → ⊥) c.find.ensures.ran (λ z q h. search rules) (λ z q h. (search rules, search rules))))
