-- `labels::fill_label` meets its contract: the bytes passed are the label's, and `size` counts them.
use Prim.Native.Nat.{ℕ, ◌≤◌}
use mathlib.Core.Path.{◌≡◌}
use mathlib.Core.List.{List}
use native.Mathlib.Omega.{arith}
use lib.ListN.{length, take}
use lib.Seq.{length-take-le}
use Rattle.answers.specs.Sizes.{most_entities, least_label}
use Rattle.answers.specs.Rows.{Mark, Bytes}
use Rattle.answers.proofs.Marks.{mark_bit}
use Rattle.labels.proofs.Judged.{byte_marks}
use Rattle.labels.proofs.Labelling.{label_none, label_more, label_few, label_done}
use Rattle.labels.proofs.fill_label.Goals as goal
use Rattle.labels.proofs.fill_label.Goals.{After-byte}

-- the used part has a byte for each entity
used : (n : ℕ) (label : List ℕ) → n ≤ most_entities → least_label ≤ length label → length (take n label) ≡ n
used n label few room = length-take-le n label (omega arith)

-- the byte that is written marks whether y flows to x
mark : (c : After-byte) → Mark (Bytes c.args.table.n c.args.table.bytes.now c.loop-y.y c.args.x) c.byte.result
mark c = rw c.byte.ensures (byte_marks _ _ _ _ c.requires.asked.accepted (omega (arith, used _ _ c.args.table.few c.requires.label_room)) c.requires.asked.below)

pub loop-y-init : goal.loop-y-init
loop-y-init c = label_none _ _ _ _

pub overflow_add-size : goal.overflow_add-size
overflow_add-size c =
    let few = label_few _ _ _ _ _ _ c.loop-y.invariant (omega arith) in
    omega (arith, few, mark_bit (mark (goal.at.overflow_add-size c).After-byte))

pub loop-y-preserved : goal.loop-y-preserved
loop-y-preserved c = label_more _ _ _ _ _ _ c.loop-y.invariant _ (omega arith) (mark (goal.at.loop-y-preserved c).After-byte)

pub returns : goal.returns
returns c =
    let part = used _ _ c.args.table.few c.requires.label_room in
    let all : c.loop-y.y ≡ c.args.table.n = omega (arith, part) in
    label_done _ _ _ _ _ _ (omega (arith, part)) (rw all at c.loop-y.invariant)
