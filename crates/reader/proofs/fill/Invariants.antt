-- `reader::fill` meets its contract: the tables hold what was read, and the lines that are left add up to what the whole text says.
use Rattle.parsing.specs.Inner.{lines_left}
use Rattle.reader.specs.Fill.{tables}
use Rattle.reader.proofs.Fills.{Filling}
use Rattle.reader.proofs.fill.Given as goal

abbrev pub invariant-loop-line : goal.invariant-loop-line
invariant-loop-line l =
    Filling l.text (tables l.initial.assignment l.initial.permission l.initial.separations) (tables l.assignment l.permission l.separations) l.k
    (lines_left l.line-iterator)
