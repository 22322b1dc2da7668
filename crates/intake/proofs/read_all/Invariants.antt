-- `intake::read_all` meets its contract: what came lies within the buffer, and each turn brings more.
use Rattle.std.proofs.Common.{length, ◌-◌, ◌≤◌}
use Rattle.intake.proofs.read_all.Given as goal

abbrev pub invariant-loop-size : goal.invariant-loop-size
invariant-loop-size g l = l.size ≤ length l.buffer

abbrev pub decreases-loop-size : goal.decreases-loop-size
decreases-loop-size g l = length l.initial.buffer - l.size
