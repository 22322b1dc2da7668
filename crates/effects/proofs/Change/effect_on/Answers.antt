-- `Change::effect_on` meets its contract: each test counts as a number, and what a change lost, the one that takes it back gained.
use mathlib.Core.Path.{refl}
use Rattle.labels.proofs.Judged.{test_marks}
use Rattle.effects.proofs.Change.effect_on.Goals as goal

pub returns : goal.returns
returns c =
    let back = c.undone-back.ensures in
    record {
      gain = _;
      loss = _;
      gained = test_marks _ c.gained-gain.ensures;
      lost = test_marks c.gained-loss.result (rw (← back.0, ← back.1, c.undone-back.result.equal_n) c.gained-loss.ensures);
      summed = refl;
    }
