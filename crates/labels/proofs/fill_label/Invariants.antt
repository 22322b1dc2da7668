-- `labels::fill_label` meets its contract: the bytes passed are the label's, and `size` counts them.
use Rattle.labels.proofs.Labelling.{LabelTo}
use Rattle.labels.proofs.fill_label.Given as goal

abbrev pub invariant-loop-y : goal.invariant-loop-y
invariant-loop-y l = LabelTo l.table.n l.table.bytes.now l.x l.y l.size l.byte-items
