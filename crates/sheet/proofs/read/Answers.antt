-- `sheet::read` meets its contract: each refusal leaves the tables, and an accepted text fills them. Assumes nothing.
use Rattle.checking.proofs.Turns.{refused_with}
use Rattle.sheet.proofs.ReadReturns.{lengths_refused, lengths_checked, line_refused, tables_filled}
use Rattle.sheet.proofs.read.Goals as goal
use Rattle.sheet.proofs.read.Goals.{In_ok-check_lengths}

pub returns-in_err-check_lengths : goal.returns-in_err-check_lengths
returns-in_err-check_lengths c =
    let stop = c.in_err-check_lengths.ensures in
    rw (refused_with _ _ c.from_residual.ensures.1) (lengths_refused _ _ _ stop.0 stop.1)

pub returns-in_err-passed : goal.returns-in_err-passed
returns-in_err-passed c =
    let lengths = lengths_checked _ _ c.in_ok-check_lengths.ensures in
    rw (refused_with _ _ c.from_residual-in_err-passed.ensures.1) (line_refused _ _ lengths.0 lengths.1 _ c.in_err-passed.ensures)

pub fill-requires-clause-long_tables : goal.fill-requires-clause-long_tables
fill-requires-clause-long_tables c = (lengths_checked _ _ c.in_ok-check_lengths.ensures).0

pub returns : goal.returns
returns c =
    let lengths = lengths_checked _ _ c.in_ok-check_lengths.ensures in
    tables_filled _ _ lengths.0 lengths.1 _ _ c.in_ok-passed.ensures c.fill.ensures
