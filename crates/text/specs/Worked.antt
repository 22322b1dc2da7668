-- The sheet that document 01 prints.
use Rattle.std.specs.Prelude.{ℕ, List}
use Rattle.digits.specs.Text.{codes}

-- "The program `flowsheet` reads a sheet from standard input. Input:"
unfoldable pub worked_text : List ℕ
unfolding codes
worked_text =
    codes "01030304\n020000\n020101\n020202\n03000002\n03010001\n03010102\n03020201\n03030101\n03030202\n040004\n040402\n05000c\n"
