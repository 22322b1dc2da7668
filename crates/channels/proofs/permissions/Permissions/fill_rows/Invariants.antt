-- `channels::permissions::Permissions::fill_rows` meets its contract. After x turns the first x rows are right.
use Rattle.answers.specs.Rows.{Mark}
use Rattle.answers.proofs.Tables.{FilledRows}
use Rattle.tables.specs.Sheet.{lent_by, sheet_in}
use Rattle.access.specs.Channel.{Channel}
use Rattle.channels.proofs.permissions.Permissions.fill_rows.Given as goal

abbrev pub invariant-loop-x : goal.invariant-loop-x
invariant-loop-x l =
    FilledRows l.n (λ a b byte. Mark (Channel (sheet_in (lent_by l.self.sheet)) a b) byte) l.x l.initial.channels l.channels
