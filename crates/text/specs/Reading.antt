-- What reading makes of a text.
use Rattle.std.specs.Prelude.{ℕ, cond, List, length}
use Rattle.answers.specs.Sizes.{most_text}
use Rattle.answers.specs.Rows.{exceeds}
use Rattle.tables.specs.Sheet.{Sheet}
use Rattle.frames.specs.Check.{start, check, parsed_lines, frames_of, CheckedText, Refused, Accepted}
use Rattle.text.specs.Content.{content_of}

-- a refusal by its number and its line, or a sheet
pub data Read : Type 0 where
  refused : ℕ → ℕ → Read
  accepted : Sheet → Read

-- the sheet counts only where no line is refused
unfoldable pub read_by : CheckedText → Sheet → Read
read_by (Refused n line) t = refused n line
read_by Accepted t = accepted t

-- "Then line by line, the first faulty line decides"
unfoldable pub read_lines : List ℕ → Read
read_lines text = read_by (check start (parsed_lines text)) (content_of (frames_of (parsed_lines text)))

-- "5 for the text length, .. with line 0. Then line by line"
unfoldable pub read_text : List ℕ → Read
read_text text = cond (exceeds (length text) most_text) (refused 5 0) (read_lines text)
