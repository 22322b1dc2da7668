-- `channels::permissions::Permissions::fill_row` meets its contract. After y turns the first y bytes are right.
use Rattle.answers.specs.Rows.{Mark}
use Rattle.answers.proofs.FilledBytes.{FilledBytes}
use Rattle.tables.specs.Sheet.{lent_by, sheet_in}
use Rattle.access.specs.Channel.{Channel}
use Rattle.channels.proofs.permissions.Permissions.fill_row.Given as goal

abbrev pub invariant-loop-y : goal.invariant-loop-y
invariant-loop-y l = FilledBytes (λ k byte. Mark (Channel (sheet_in (lent_by l.self.sheet)) l.x k) byte) l.y l.row
