-- `verdict::judge` meets its contract: each return by what its callees answered.
use mathlib.Core.Path.{sym}
use Rattle.verdict.proofs.Judging.{judgeable}
use Rattle.verdict.proofs.judge.Goals as goal

pub judge_sheet-requires : goal.judge_sheet-requires
judge_sheet-requires c = judgeable _ _ _ _ (sym c.in_ok-check_judge.ensures)
