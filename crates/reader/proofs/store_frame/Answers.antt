-- `reader::store_frame` meets its contract: each kind of frame has its law.
use native.Mathlib.Omega.{arith}
use lib.ListN.{length-set}
use Rattle.reader.proofs.Stores.{assignment_room, permission_room, header_fits, assign_place, permit_place, separate_place, header_stored, assign_stored, permit_stored, separate_stored, end_stored}
use Rattle.reader.proofs.store_frame.Goals as goal

pub clear-requires : goal.clear-requires
clear-requires c = omega (arith, (header_fits _ _ c.requires.passes _ _ _ c.in-Header.is).0, c.requires.long_tables.assignment_long)

pub clear-requires-in-Header : goal.clear-requires-in-Header
clear-requires-in-Header c = omega (arith, (header_fits _ _ c.requires.passes _ _ _ c.in-Header.is).1, c.requires.long_tables.permission_long)

pub returns-in-Header : goal.returns-in-Header
returns-in-Header c = rw (c.clear.ensures, c.clear-in-Header.ensures) (header_stored _ _ c.requires.passes _ _ _ _ _ _ c.in-Header.is)

pub bounds-assignment-s : goal.bounds-assignment-s
bounds-assignment-s c =
    omega (arith, assign_place _ _ c.requires.passes _ _ c.in-Assign.is, assignment_room _ c.requires.passes.within, c.requires.long_tables.assignment_long)

pub returns-in-Assign : goal.returns-in-Assign
returns-in-Assign c = assign_stored _ _ c.requires.passes _ _ _ _ _ c.in-Assign.is

pub bounds-permission-r : goal.bounds-permission-r
bounds-permission-r c =
    omega (arith, permit_place _ _ c.requires.passes _ _ _ c.in-Permit.is, permission_room _ c.requires.passes.within, c.requires.long_tables.permission_long)

pub returns-in-Permit : goal.returns-in-Permit
returns-in-Permit c = permit_stored _ _ c.requires.passes _ _ _ _ _ _ c.in-Permit.is

pub bounds-separations-k : goal.bounds-separations-k
bounds-separations-k c = omega (arith, separate_place _ _ c.requires.passes _ _ c.in-Separate.is, c.requires.long_tables.separations_long)

pub bounds-separations-k-in-Separate : goal.bounds-separations-k-in-Separate
bounds-separations-k-in-Separate c =
    simp length-set (omega (arith, separate_place _ _ c.requires.passes _ _ c.in-Separate.is, c.requires.long_tables.separations_long))

pub returns-in-Separate : goal.returns-in-Separate
returns-in-Separate c =
    separate_stored _ _ c.requires.passes _ _ _ _ _ c.in-Separate.is
    (omega (arith, separate_place _ _ c.requires.passes _ _ c.in-Separate.is, c.requires.long_tables.separations_long))

pub returns-in-End : goal.returns-in-End
returns-in-End c = end_stored _ _ c.requires.passes _ _ _ _ _ c.in-End.is
