-- `verdict::chain` meets its contract: each return by what its callees answered.
use mathlib.Core.Path.{sym}
use Rattle.answers.proofs.Calls.{accept}
use Rattle.verdict.proofs.Showing.{showable, shown_or}
use Rattle.verdict.proofs.chain.Goals as goal

pub show-requires : goal.show-requires
show-requires c = showable _ _ _ _ (sym c.in_ok-check_chain.ensures)

pub returns : goal.returns
returns c = accept (sym c.in_ok-check_chain.ensures) (shown_or c.show.ensures c.ok_or.ensures.value)
