-- `report`: the whole output for a text, written at the start of a buffer.
use Rattle.std.specs.Prelude.{ℕ, ◌≡◌, List, [], ◌∷◌, length}
use Rattle.answers.specs.declared.Told.{Told}
use Rattle.answers.specs.Call.{Refusal, ◌if◌, Outcome, told, told_and_left}
use Rattle.answers.specs.Rows.{over, shorter}
use Rattle.output.specs.Output.{Output}

-- our own point: the longest output has 112 lines 81 of 11 bytes and one line 82 of 203, whose chain has 97 entities
abbrev pub least_output : ℕ
least_output = 1435

-- "1 | a lent buffer is shorter than its least length"
unfoldable pub report_refusals : List ℕ → List Refusal
report_refusals out = (1 if shorter out least_output) ∷ []

-- the length of the output, and the output in front of what the buffer held
pub record Reported (text before : List ℕ) (result : Told × List ℕ) : Type 0 where
  pub printed : List ℕ
  pub output : Output text printed
  pub written : result ≡ (told 0 (length printed), over printed before)

-- the contract of `report`: the answer and the output's length, and the buffer afterwards
abbrev pub Reports : List ℕ → List ℕ → Told × List ℕ → Type 0
Reports text before = Outcome (report_refusals before) (told_and_left before) (Reported text before)
