-- `channels::permissions::Permissions::fill_row` meets its contract. After y turns the first y bytes are right.
use Rattle.std.proofs.Common.{◌≡◌, ◌<◌, ◌∙◌, length, arith}
use mir.Val.{bool_byte}
use Rattle.std.proofs.Math.Bool.{or-false, and-true}
use Rattle.answers.proofs.FilledBytes.{one_byte_more, bytes_row}
use Rattle.tables.specs.Sheet.{entities}
use Rattle.channels.proofs.Sides.{marked}
use Rattle.channels.proofs.permissions.Permissions.fill_row.Goals as goal

pub loop-y-preserved : goal.loop-y-preserved
loop-y-preserved c =
    let inside : c.loop-y.y < length c.loop-y.row = omega arith in
    let byte : c.from.result ≡ bool_byte c.channel.result = simp (c.from.ensures, or-false, and-true) in
    one_byte_more c.loop-y.invariant inside (marked byte c.channel.ensures)

pub returns : goal.returns
returns c =
    let all : c.loop-y.y ≡ entities c.args.self.sheet.counts = omega arith in
    bytes_row (c.loop-y.auto.row ∙ c.requires.1) (rw all at c.loop-y.invariant)
