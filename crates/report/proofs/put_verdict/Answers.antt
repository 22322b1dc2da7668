-- `report::put_verdict` meets its contract, where all hold and where one is broken.
use native.Mathlib.Omega.{arith}
use Rattle.tables.specs.Sheet.{lent_by}
use Rattle.report.proofs.VerdictLines.{printable_fewer, is_judged, hold_line, broken_small, broken_line}
use Rattle.report.proofs.put_verdict.Goals as goal

pub unwrap-requires : goal.unwrap-requires
unwrap-requires c = is_judged (lent_by c.args.sheet) _ _ _ _ _ (printable_fewer (omega arith) c.requires.printable) (omega arith) c.judge-judged.ensures

pub returns-in-None : goal.returns-in-None
returns-in-None c =
    record {
      line = _;
      right = hold_line (lent_by c.args.sheet) _ _ _ _ _ c.requires.printable (omega arith) c.judge-judged.ensures c.in-None.ensures;
      put = c.put_line.ensures;
    }

pub put_broken-requires : goal.put_broken-requires
put_broken-requires c =
    let small = broken_small (lent_by c.args.sheet) _ _ _ _ _ c.requires.printable (omega arith) c.judge-judged.ensures _ c.in-Some.ensures in
    (small.0, small.1, omega arith, omega (arith, c.requires.at_in_bounds))

pub returns-in-Some : goal.returns-in-Some
returns-in-Some c =
    record {
      line = _;
      right = broken_line (lent_by c.args.sheet) _ _ _ _ _ c.requires.printable (omega arith) c.judge-judged.ensures _ c.in-Some.ensures;
      put = c.put_broken.ensures;
    }
