-- What `read` and the function that it begins with tell each other. No promise: it only ties them together.
use Rattle.std.specs.Prelude.{ℕ, ◌≡◌, Result, MatchResult, List, [], ◌∷◌, length}
use Rattle.answers.specs.Sizes.{most_text}
use Rattle.answers.specs.Call.{◌if◌, ◌then◌, first_refusal}
use Rattle.answers.specs.Refused.{number}
use Rattle.answers.specs.Rows.{exceeds}
use Rattle.frames.specs.declared.RefusedText.{RefusedText}
use Rattle.reader.specs.Fill.{Tables}
use Rattle.sheet.specs.Read.{read_refusals}

-- 1, then 5 for the text's length
abbrev pub lengths_refusal : List ℕ → Tables → ℕ
lengths_refusal text before = first_refusal (read_refusals before then ((5 if exceeds (length text) most_text) ∷ []))

-- both with line 0
abbrev pub LengthsChecked : List ℕ → Tables → Result (Unit {0}) RefusedText → Type 0
LengthsChecked text before result =
    MatchResult result (λ _. lengths_refusal text before ≡ 0) (λ stop. (number stop.why ≡ lengths_refusal text before) × (stop.line ≡ 0))
