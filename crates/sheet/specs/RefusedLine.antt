-- The refused line, as a part of the caller's own text.
use Rattle.std.specs.Prelude.{ℕ, List}
use Rattle.std.specs.Borrow.{Bor}
use Rattle.answers.specs.Part.{Part}
use Rattle.digits.specs.Line.{line_start, line_end}

-- "for a text and a line number the library hands back that line as a part of the caller's own text, without its line feed"
abbrev pub RefusedLine : Bor (List ℕ) → ℕ → Bor (List ℕ) → Type 0
RefusedLine text line = Part text (line_start text.now line) (line_end text.now line)
