-- `rows::fill_rows` meets its contract. After x turns the rows below x are filled.
use Rattle.answers.specs.Rows.{Mark, Bytes}
use Rattle.answers.proofs.Tables.{FilledRows}
use Rattle.theory.specs.Flow.{Flow}
use Rattle.rows.proofs.fill_rows.Given as goal

abbrev pub invariant-loop-x : goal.invariant-loop-x
invariant-loop-x l =
    FilledRows l.n (λ a b byte. Mark (Flow (Bytes l.n l.channels.bytes.now) a b) byte) l.x l.initial.flow l.flow
