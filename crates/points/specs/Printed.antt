-- What document 01 prints for its sheet.
use Rattle.std.specs.Prelude.{ℕ, List}
use Rattle.digits.specs.Text.{codes}

-- "Output:"
unfoldable pub printed : List ℕ
unfolding codes
printed = codes "8100000201\n8101010003\n8102020102\n8103030002\n8104040104\n8105050201\n8201000400030104\n"
