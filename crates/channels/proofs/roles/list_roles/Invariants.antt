-- `channels::roles::list_roles` meets its contract. After s turns each subject below s has its list.
use Rattle.std.proofs.Common.{◌≡◌, ◌<◌, ℕ, get_or, length}
use Rattle.tables.specs.Sheet.{lent_by}
use Rattle.channels.specs.Inner.{RolesOf, empty}
use Rattle.channels.proofs.roles.list_roles.Given as goal

abbrev pub invariant-loop-s : goal.invariant-loop-s
invariant-loop-s l =
    record {
      same_length : length l.lists ≡ length l.initial.lists;
      each : (x : ℕ) → x < l.s → RolesOf (lent_by l.sheet) x (get_or l.lists x empty);
    }
