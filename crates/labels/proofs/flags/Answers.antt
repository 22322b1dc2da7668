-- `labels::flags` meets its contract: each test counts as a number.
use mathlib.Core.Path.{refl}
use Rattle.labels.proofs.Judged.{test_marks}
use Rattle.labels.proofs.flags.Goals as goal

pub returns : goal.returns
returns c =
    record {
      secrecy = _;
      integrity = _;
      secret = test_marks _ c.has_greatest_secrecy.ensures;
      integral = test_marks _ c.has_greatest_integrity.ensures;
      summed = refl;
    }
