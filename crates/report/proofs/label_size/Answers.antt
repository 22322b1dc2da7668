-- `report::label_size` meets its contract: the size of the label that is written.
use native.Mathlib.Omega.{arith}
use Rattle.report.proofs.Asking.{labelling, counted}
use Rattle.report.proofs.label_size.Goals as goal

pub fill_label-requires : goal.fill_label-requires
fill_label-requires c =
    labelling _ _ _ c.requires.0 c.requires.1 _ (omega arith)

pub returns : goal.returns
returns c =
    counted _ _ _ c.requires.0 c.requires.1 _ _ _ c.fill_label.ensures
