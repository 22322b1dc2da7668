-- `questions::label` meets its contract: each return by what its callees answered.
use mathlib.Core.Path.{sym}
use borrow.Author.Tests.{ltb-false}
use Rattle.questions.proofs.Asked.{asked_passed}
use Rattle.questions.proofs.label.Goals as goal

pub fill_label-requires : goal.fill_label-requires
fill_label-requires c =
    let lent = c.in_ok-square.ensures.lent in
    let passed = asked_passed _ _ _ _ (sym c.in_ok-square.ensures.judged) in
    record { asked = rw (lent.0, lent.1) passed.1; label_room = ltb-false _ _ passed.0 }
