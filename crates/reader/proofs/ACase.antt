-- The least tables that reading may be lent.
use lib.Dec.{lit≤}
use lib.ListN.{replicate}
use Rattle.reader.specs.Fill.{tables, LongTables}

-- "Least lent lengths": met by tables of just these
pub least_long : LongTables (tables (replicate 2304 9) (replicate 3072 9) (replicate 128 9))
least_long = record { assignment_long = lit≤ tt; permission_long = lit≤ tt; separations_long = lit≤ tt }
