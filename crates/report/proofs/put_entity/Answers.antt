-- `report::put_entity` meets its contract: each answer is a byte, and the line is that of the answers.
use Prim.Native.Nat.{◌<◌}
use native.Mathlib.Omega.{arith}
use Rattle.report.proofs.Asking.{asked, described, all_bytes}
use Rattle.report.proofs.put_entity.Goals as goal
use Rattle.report.proofs.put_entity.Goals.{After-label_size-size}

pub smallest_member-class-requires : goal.smallest_member-class-requires
smallest_member-class-requires c = asked _ _ _ c.requires.accepted c.requires.entity

-- what was asked before the line is made: each answer is a byte
answers_small : (c : After-label_size-size) → (c.smallest_member-class.result < 256) × (c.flags-flags.result < 256) × (c.label_size-size.result < 256)
answers_small c =
    all_bytes _ _ _ c.requires.accepted c.requires.entity _ _ _ c.smallest_member-class.ensures c.flags-flags.ensures c.label_size-size.ensures

pub overflow_cast-line-2 : goal.overflow_cast-line-2
overflow_cast-line-2 c = omega (arith, answers_small (goal.at.overflow_cast-line-2 c).After-label_size-size)

pub overflow_cast-line-3 : goal.overflow_cast-line-3
overflow_cast-line-3 c = omega (arith, answers_small (goal.at.overflow_cast-line-3 c).After-label_size-size)

pub overflow_cast-line-4 : goal.overflow_cast-line-4
overflow_cast-line-4 c = omega (arith, answers_small (goal.at.overflow_cast-line-4 c).After-label_size-size)

pub returns : goal.returns
returns c =
    record {
      line = _;
      right = described _ _ _ c.requires.accepted c.requires.entity _ _ _ c.smallest_member-class.ensures c.flags-flags.ensures c.label_size-size.ensures;
      put = c.put_line.ensures;
    }
