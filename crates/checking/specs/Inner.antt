-- What functions that check a text tell each other. No promise: it only ties functions together.
use Rattle.std.specs.Prelude.{ℕ, ◌^◌, ◌<◌, ◌≡◌, Result, Ok, List, [], ◌∷◌}
use Rattle.frames.specs.declared.Passed.{Passed}
use Rattle.frames.specs.declared.RefusedText.{RefusedText}
use Rattle.frames.specs.Frame.{Parsed}
use Rattle.frames.specs.Check.{start, next_line, checked, check, parsed_lines}

-- no more lines and separations than can be counted on
pub record Countable (k : Passed) : Type 0 where
  pub lines : k.lines < 2 ^ 63
  pub separations : k.separations < 2 ^ 63

-- what is known after lines
unfoldable pub after_lines : Passed → List Parsed → Passed
after_lines k [] = k
after_lines k (p ∷ ps) = after_lines (next_line k p) ps

-- what a text comes to, and what is known of its lines where they pass
pub record Checks (text : List ℕ) (result : Result Passed RefusedText) : Type 0 where
  pub verdict : checked result ≡ check start (parsed_lines text)
  pub passed : (k : Passed) → result ≡ Ok k → k ≡ after_lines start (parsed_lines text)
