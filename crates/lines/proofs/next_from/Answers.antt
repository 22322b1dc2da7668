-- `lines::next_from` meets its contract: the next line begins past the line feed, or the text has ended.
use native.Mathlib.Omega.{arith}
use Rattle.lines.proofs.Starts.{next_begins}
use Rattle.lines.proofs.next_from.Goals as goal

pub returns : goal.returns
returns c = let e = next_begins c.args.text.now c.args.at (omega arith) in (omega arith, omega arith)
