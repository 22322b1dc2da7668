-- `channels::roles::RoleList::of` meets its contract. After a turn for each role below `role` the list has those of them that the subject has.
use Rattle.std.proofs.Common.{take, ◌≡◌, ◌≤◌, length}
use Rattle.tables.specs.Sheet.{lent_by}
use Rattle.channels.specs.Inner.{roles_below}
use Rattle.channels.proofs.roles.RoleList.of.Given as goal

abbrev pub invariant-loop-role : goal.invariant-loop-role
invariant-loop-role l =
    record {
      few : l.count ≤ l.role;
      places : length l.places ≡ 48;
      all : take l.count l.places ≡ roles_below (lent_by l.sheet) l.s l.role;
    }
