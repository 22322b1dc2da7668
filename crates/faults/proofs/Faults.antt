-- The test whether a number is an entity, and what a line is refused by.
use Prim.Native.Nat.{ℕ, ◌+◌, ◌-◌, ◌≤◌}
use mathlib.Core.Path.{◌≡◌, sym, ◌∙◌}
use native.Mathlib.Decide.{dec_le}
use native.Mathlib.Omega.{arith}
use mathlib.Core.Bool.{true, false}
use lib.Dec.{leb}
use borrow.Author.Tests.{le-leb, lt-leb}
use Rattle.std.specs.Prelude.{Ok, Err}
use Rattle.answers.specs.declared.refused.Refused.{Refused as Why}
use Rattle.answers.specs.Call.{first_refusal}
use Rattle.answers.specs.Refused.{number}
use Rattle.frames.specs.declared.Frame.{Frame}
use Rattle.frames.specs.declared.Passed.{Passed}
use Rattle.frames.specs.Frame.{Parsed}
use Rattle.frames.specs.Check.{frame_refusals, parsed_refusals, line_refusals}

-- a number at or above the first count is compared by what it is above it
pub above_first : (m n x : ℕ) → m ≤ x → leb n (x - m) ≡ leb (m + n) x
above_first m n x h = go (dec_le n (x - m))
  where
    go : Dec (n ≤ x - m) → leb n (x - m) ≡ leb (m + n) x
    go (yes l) = le-leb n (x - m) l ∙ sym (le-leb (m + n) x (omega arith))
    go (no l) = lt-leb n (x - m) (omega arith) ∙ sym (lt-leb (m + n) x (omega arith))

-- ---- what a line is refused by
module _ (k : Passed) (line : Parsed) where
  pub after_the_end : k.ended ≡ true → 9 ≡ first_refusal (line_refusals k line)
  unfolding first_refusal line_refusals
  after_the_end e = rw e

  pub no_frame : (why : Why) → k.ended ≡ false → line ≡ Err why → number why ≡ first_refusal (line_refusals k line)
  unfolding first_refusal line_refusals parsed_refusals
  no_frame why e h = rw (e, h)

  pub of_frame : (f : Frame) {n : ℕ} → k.ended ≡ false → line ≡ Ok f → n ≡ first_refusal (frame_refusals k f) → n ≡ first_refusal (line_refusals k line)
  unfolding first_refusal line_refusals parsed_refusals
  of_frame f e h same = rw (e, h) same
