-- Laws of a change at the sheet of one subject, two objects and one role.
use native.Mathlib.Omega.{arith}
use Rattle.access.specs.Channel.{Channel}
use Rattle.theory.specs.Laws.{Contains}
use Rattle.change.specs.Change.{with_assignment, with_permission}
use Rattle.change.proofs.ACase.{reader, three_adds}
use Rattle.change.proofs.Changes.{permission_adds, assignment_takes}

more_channels : Contains (Channel (with_permission reader 0 0 3)) (Channel reader)
more_channels = permission_adds reader 0 0 3 three_adds

fewer_channels : Contains (Channel reader) (Channel (with_assignment reader 0 0 0))
fewer_channels = assignment_takes reader 0 0 0 (λ e. absurd (omega arith))
