-- `report::put_sheet` meets its contract: the flow table is filled, its lines and the verdict's line are written.
use native.Mathlib.Omega.{arith}
use Rattle.tables.specs.Sheet.{lent_by}
use Rattle.report.proofs.EachLine.{lines_place}
use Rattle.report.proofs.Reporting.{is_done, is_accepted, sheet_put}
use Rattle.report.proofs.put_sheet.Goals as goal

pub unwrap-requires : goal.unwrap-requires
unwrap-requires c = is_done (lent_by c.args.sheet) _ _ c.requires.printable _ _ _ (omega arith) c.fill.ensures

pub put_entities-end-requires : goal.put_entities-end-requires
put_entities-end-requires c = (
  rw c.entities.ensures (is_accepted (lent_by c.args.sheet) _ _ c.requires.printable _ _ _ (omega arith) c.fill.ensures (omega arith)),
  omega (arith, c.entities.ensures, c.requires.printable.sized.counts_fit.subjects, c.requires.printable.sized.counts_fit.objects, c.requires.least_output_in_bounds),
)

pub put_verdict-requires : goal.put_verdict-requires
put_verdict-requires c =
    let place = lines_place c.put_entities-end.ensures in
    record {
      printable = c.requires.printable;
      at_in_bounds = omega (arith, c.entities.ensures, c.requires.printable.sized.counts_fit.subjects, c.requires.printable.sized.counts_fit.objects, c.requires.least_output_in_bounds);
    }

pub returns : goal.returns
returns c =
    sheet_put (lent_by c.args.sheet) _ _ c.requires.printable _ _ _ (omega arith) c.fill.ensures
    (rw c.entities.ensures at c.put_entities-end.ensures) c.put_verdict.ensures
