-- What the functions that write lines do to a text. No promise: it only ties functions together.
use Rattle.std.specs.Prelude.{ℕ, ◌+◌, ◌*◌, ◌/◌, ◌%◌, ◌≤◌, ◌≡◌, List, length}
use Rattle.std.proofs.lemmas.List.Edits.{sets}
use Rattle.answers.specs.Sizes.{least_separations, least_text}
use Rattle.answers.specs.Rows.{over}
use Rattle.tables.specs.Sheet.{Lent, Sheet, entities}
use Rattle.frames.specs.declared.Frame.{Frame}
use Rattle.frames.specs.Frame.{text_of}
use Rattle.text.specs.Content.{present, write_sheet}
use Rattle.scribe.specs.declared.Page.{Page}
use Rattle.tables.specs.Refusals.{Sized, Listed}

-- the lines of frames are written where the pen stands, and the pen stands past them
pub record Puts (frames : List Frame) (page next : Page) : Type 0 where
  pub place : next.pen.at ≡ page.pen.at + length (text_of frames)
  pub count : next.pen.lines ≡ page.pen.lines + length frames
  pub text : next.text.now ≡ sets page.text.now page.pen.at (text_of frames)

-- the text has room for them; no more lines were written than bytes, so that they can be counted
pub record Room (frames : List Frame) (page : Page) : Type 0 where
  pub fits : page.pen.at + length (text_of frames) ≤ length page.text.now
  pub few : page.pen.lines ≤ page.pen.at

-- `frame` is what a closure answers for the row, the place there and the byte at place i of a table whose rows have `width` bytes, and the text
-- has room for the lines of such a table
pub record Frames (answers : ℕ → ℕ → ℕ → Frame → Type 0) (width : ℕ) (table : List ℕ) (page : Page) (frame : ℕ → ℕ → Frame) : Type 0 where
  pub made : (i byte : ℕ) (f : Frame) → answers (i / width) (i % width) byte f → f ≡ frame i byte
  pub room : Room (present frame 0 table) page

-- a table of some rows, its used part within the buffer
pub record Table (rows width : ℕ) (table : List ℕ) : Type 0 where
  pub rows_fit : rows ≤ 64
  pub width_fits : width ≤ 64
  pub used : rows * width ≤ length table

-- what is to be written has passed every refusal, and the buffers have their least lengths
pub record Scribable (l : Lent) (count : ℕ) (separations text : List ℕ) : Type 0 where
  pub sized : Sized l
  pub listed : Listed (entities l.counts) count separations
  pub separations_long : least_separations ≤ length separations
  pub text_long : least_text ≤ length text

-- the text of a sheet is at the start of a buffer; n is its length
pub record Written (t : Sheet) (before : List ℕ) (n : ℕ) (after : List ℕ) : Type 0 where
  pub size : n ≡ length (write_sheet t)
  pub text : after ≡ over (write_sheet t) before
