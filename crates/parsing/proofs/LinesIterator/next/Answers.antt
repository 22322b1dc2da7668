-- `next` of the lines of a text meets its contract: it gives what the first line comes to, and leaves the lines after it.
use Prim.Native.Nat.{ℕ}
use borrow.Author.Tests.{eqb-true}
use Rattle.std.proofs.Common.{List, ◌∷◌, ap, ◌∙◌, sym, arith}
use Rattle.std.proofs.lemmas.List.{take_rest}
use Rattle.frames.specs.Check.{parsed_lines}
use Rattle.parsing.proofs.Parses.{no_lines, first_line}
use Rattle.parsing.proofs.LinesIterator.next.Goals as goal

pub returns-then-is_empty-clause-steps : goal.returns-then-is_empty-clause-steps
returns-then-is_empty-clause-steps c =
    let none = no_lines c.args.self.now.rest.now (eqb-true _ _ (sym c.if-is_empty.ensures)) in
    (none, none)

pub returns-clause-steps : goal.returns-clause-steps
returns-clause-steps c =
    let t = c.args.self.now.rest.now in
    let step = first_line t c.parse_at-found.result c.min-next.result c.parse_at-found.ensures (omega arith) in
    step ∙ ap (λ (l : List ℕ). c.parse_at-found.result.parsed ∷ parsed_lines l) (sym (take_rest t c.min-next.result))
