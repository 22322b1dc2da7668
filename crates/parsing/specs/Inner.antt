-- What functions that go over the lines of a text tell each other. No promise: it only ties functions together.
use Rattle.std.specs.Prelude.{ℕ, ◌+◌, ◌≤◌, ◌<◌, ◌≡◌, List, ◌∷◌, length, drop}
use Rattle.frames.specs.Frame.{Parsed}
use Rattle.frames.specs.Check.{parsed_lines}
use Rattle.parsing.specs.declared.Found.{Found}
use Rattle.parsing.specs.declared.Lines.{Lines}

-- the line that starts at p, and where the next one begins
pub record FoundAt (text : List ℕ) (p : ℕ) (found : Found) : Type 0 where
  pub onward : p < found.next
  pub near : found.next ≤ length text + 1
  pub first : parsed_lines (drop p text) ≡ found.parsed ∷ parsed_lines (drop found.next text)

-- what the lines that are left come to
abbrev pub lines_left : Lines → List Parsed
lines_left l = parsed_lines l.rest.now
