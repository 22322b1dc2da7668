-- The printed sheet of document 01: what reading makes of it, and the least sheet.
use Prim.Native.Nat.{ℕ}
use mathlib.Core.Path.{◌≡◌, refl}
use mathlib.Core.List.{List, [], ◌∷◌}
use Rattle.tables.specs.Sheet.{Sheet, counts, sheet}
use Rattle.digits.specs.Digit.{digit_byte, to_digits}
use Rattle.digits.specs.Line.{line_of}
use Rattle.digits.specs.Text.{codes}
use Rattle.frames.specs.Frame.{frame_bytes, text_of}
use Rattle.frames.specs.Check.{frames_of}
use Rattle.frames.proofs.Verdicts.{bytes_verdict}
use Rattle.text.specs.Content.{blank, add, add_all, content_of, present, assign_at, permit_at, separates, body, opened, closing, frames_in, write_sheet}
use Rattle.text.specs.Reading.{Read, accepted, read_by, read_lines, read_text}
use Rattle.text.specs.Worked.{worked_text}

-- To compute a text or a sheet, say `unfolding reading` or `unfolding writing`: each opens every definition that it needs, those of
-- `bytes_verdict` among them.
unfoldable pub reading : List ℕ → Read
unfolding bytes_verdict frames_of blank add add_all content_of read_by read_lines read_text
reading text = read_text text

unfoldable pub writing : Sheet → List ℕ
unfolding digit_byte to_digits line_of frame_bytes text_of present assign_at permit_at separates body opened closing frames_in write_sheet
writing t = write_sheet t

-- a row for each of three subjects, a row for each of four roles, and two separations
unfoldable pub worked : Sheet
worked =
    sheet (counts 3 3 4)
    (1 ∷ 0 ∷ 0 ∷ 0
    ∷ 0 ∷ 1 ∷ 0 ∷ 0
    ∷ 0 ∷ 0 ∷ 1 ∷ 0 ∷ [])
    (2 ∷ 0 ∷ 0
    ∷ 1 ∷ 2 ∷ 0
    ∷ 0 ∷ 0 ∷ 1
    ∷ 0 ∷ 1 ∷ 2 ∷ [])
    (0 ∷ 4
    ∷ 4 ∷ 2 ∷ [])

-- the table of frames, and "Absent pairs mean 0": the text that document 01 prints is accepted, as the tables of `worked`
pub reads_worked : read_text worked_text ≡ accepted worked
unfolding reading worked_text worked
reads_worked = refl

-- the table of frames, its "05 h l | end" too: the text of the tables of `worked` is the one that document 01 prints
pub writes_worked : write_sheet worked ≡ worked_text
unfolding writing worked_text worked
writes_worked = refl

-- "Only run: `01000000`, `050001` is accepted"
pub reads_least : read_text (codes "01000000\n050001\n") ≡ accepted (blank (counts 0 0 0))
unfolding reading codes
reads_least = refl
