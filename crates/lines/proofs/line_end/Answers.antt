-- `lines::line_end` meets its contract: the line ends where the one does that begins at its place.
use mathlib.Core.Path.{sym, ◌∙◌}
use native.Mathlib.Omega.{arith}
use Rattle.lines.proofs.Places.{end_within, start_first}
use Rattle.lines.proofs.Starts.{end_at}
use Rattle.lines.proofs.line_end.Goals as goal

pub end_of_line-requires : goal.end_of_line-requires
end_of_line-requires c =
    let text = c.args.text.now in
    let number = c.args.line in
    omega (arith, end_within text number, start_first text number)

pub returns : goal.returns
returns c = c.end_of_line.ensures.0 ∙ rw c.line_start-at.ensures (sym (end_at c.args.text.now c.args.line))
