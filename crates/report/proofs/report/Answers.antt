-- `report::report` meets its contract: each return by what reading answered.
use mathlib.Core.Path.{refl}
use native.Mathlib.Omega.{arith}
use Rattle.answers.proofs.Exits.{some_number}
use Rattle.sheet.proofs.ReadDone.{read_done}
use Rattle.report.proofs.Reporting.{is_refused, line_fits, is_printable, too_short, refused_reported, sheet_reported}
use Rattle.report.proofs.report.Goals as goal

pub returns-then-out-lt-LEAST_OUTPUT : goal.returns-then-out-lt-LEAST_OUTPUT
returns-then-out-lt-LEAST_OUTPUT c = too_short _ _ (omega arith)

pub put_refusal-size-requires : goal.put_refusal-size-requires
put_refusal-size-requires c =
    (line_fits _ _ (record { assignment_long = omega arith; permission_long = omega arith; separations_long = omega arith }) _ c.in-Err.ensures (some_number _), omega arith)

pub returns-in-Err : goal.returns-in-Err
returns-in-Err c =
    refused_reported _ _ (omega arith) _ _
    (is_refused _ _ (record { assignment_long = omega arith; permission_long = omega arith; separations_long = omega arith }) _ c.in-Err.ensures (some_number _))
    c.put_refusal-size.ensures

pub put_sheet-size-requires : goal.put_sheet-size-requires
put_sheet-size-requires c =
    record {
      printable = is_printable (read_done _ _ _ c.in-Ok.ensures refl) (omega arith) (omega arith) (omega arith);
      least_output_in_bounds = omega arith;
    }

pub returns-in-Ok : goal.returns-in-Ok
returns-in-Ok c = sheet_reported _ _ (omega arith) (read_done _ _ _ c.in-Ok.ensures refl) c.put_sheet-size.ensures
