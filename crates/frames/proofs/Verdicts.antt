-- What the check says of a text, with every definition opened, for examples.
use Prim.Native.Nat.{ℕ, zero, suc, ◌/◌, ◌%◌}
use Prim.Native.String.{String}
use mathlib.Core.List.{List, [], ◌∷◌, ◌++◌}
use Rattle.answers.specs.Call.{first_refusal}
use Rattle.digits.specs.Digit.{is_digit, digit_value, digit_byte, digit_pairs, to_bytes, to_digits}
use Rattle.digits.specs.Line.{joined, lines, non_empty, sound_line, line_of}
use Rattle.digits.specs.Text.{codes}
use Rattle.frames.specs.Frame.{of_three, of_four, frame_of, parse, key}
use Rattle.frames.specs.Check.{start, next, misplaced, oversized, out_of_range, too_many, miscounted, frame_refusals, parsed_refusals, line_refusals, next_line, check, parsed_lines, CheckedText}

unfoldable pub bytes_verdict : List ℕ → CheckedText
unfolding is_digit digit_value digit_pairs to_bytes joined lines non_empty sound_line of_three of_four frame_of parse key start next misplaced oversized out_of_range too_many miscounted first_refusal frame_refusals parsed_refusals line_refusals next_line check parsed_lines
bytes_verdict text = check start (parsed_lines text)

unfoldable pub verdict : String → CheckedText
unfolding bytes_verdict codes
verdict text = bytes_verdict (codes text)

-- a header and the first n separations among nine entities, eight to a row
unfoldable pub separated : ℕ → List ℕ
unfolding codes line_of to_digits digit_byte
separated zero = codes "01090000\n"
separated (suc n) = separated n ++ line_of (4 ∷ n / 8 ∷ n % 8 ∷ [])
