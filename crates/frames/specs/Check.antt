-- The check of a whole text: "line by line, the first faulty line decides", and within a line the first of its faults.
use Rattle.std.specs.Prelude.{ℕ, zero, suc, ◌+◌, ◌*◌, Bool, true, false, cond, not, ◌||◌, Result, Ok, Err, List, [], ◌∷◌, map, leb, ltb, eqb}
use Rattle.tables.specs.declared.Counts.{Counts}
use Rattle.answers.specs.Sizes.{most_subjects, most_objects, most_roles, most_separations}
use Rattle.answers.specs.Call.{Refusal, ◌if◌, first_refusal}
use Rattle.answers.specs.Refused.{number}
use Rattle.answers.specs.Rows.{exceeds}
use Rattle.tables.specs.Sheet.{counts, entities}
use Rattle.digits.specs.Line.{lines}
use Rattle.frames.specs.declared.Frame.{Frame}
use Rattle.frames.specs.declared.Frame.TheVariants.{Header, Assign, Permit, Separate, End}
use Rattle.frames.specs.declared.Passed.{Passed}
use Rattle.frames.specs.declared.RefusedText.{RefusedText}
use Rattle.frames.specs.Frame.{Parsed, parse, key}

-- what is known of the lines before: how many, whether the end line was among them, the header's counts, the key of the last, the
-- separations
abbrev pub passed : ℕ → Bool → Counts → ℕ → ℕ → Passed
passed lines ended c last separations =
    record { lines = lines; ended = ended; counts = c; last = last; separations = separations }

-- before the first line
unfoldable pub start : Passed
start = passed 0 false (counts 0 0 0) 0 0

-- after one more line
unfoldable pub next : Passed → Frame → Passed
next k (Header s o r) = passed (k.lines + 1) k.ended (counts s o r) (key (Header s o r)) k.separations
next k (Assign s r) = passed (k.lines + 1) k.ended k.counts (key (Assign s r)) k.separations
next k (Permit r o m) = passed (k.lines + 1) k.ended k.counts (key (Permit r o m)) k.separations
next k (Separate x y) = passed (k.lines + 1) k.ended k.counts (key (Separate x y)) (k.separations + 1)
next k (End h l) = passed (k.lines + 1) true k.counts (key (End h l)) k.separations

-- "4 | the first line is no header, or a later line is one"
unfoldable pub misplaced : Passed → Frame → Bool
misplaced k (Header s o r) = ltb 0 k.lines
misplaced k (Assign s r) = eqb k.lines 0
misplaced k (Permit r o m) = eqb k.lines 0
misplaced k (Separate x y) = eqb k.lines 0
misplaced k (End h l) = eqb k.lines 0

-- "5 for header counts"
unfoldable pub oversized : Frame → Bool
oversized (Header s o r) = exceeds s most_subjects || exceeds o most_objects || exceeds r most_roles
oversized (Assign s r) = false
oversized (Permit r o m) = false
oversized (Separate x y) = false
oversized (End h l) = false

-- "6 | a subject, role, object or entity is not below its count, or a mode or value is out of range"
unfoldable pub out_of_range : Passed → Frame → Bool
out_of_range k (Header s o r) = false
out_of_range k (Assign s r) = leb k.counts.subjects s || leb k.counts.roles r
out_of_range k (Permit r o m) = leb k.counts.roles r || leb k.counts.objects o || ltb m 1 || ltb 3 m
out_of_range k (Separate x y) = leb (entities k.counts) x || leb (entities k.counts) y
out_of_range k (End h l) = false

-- "8 | more than 64 separations"
unfoldable pub too_many : Passed → Frame → Bool
too_many k (Header s o r) = false
too_many k (Assign s r) = false
too_many k (Permit r o m) = false
too_many k (Separate x y) = leb most_separations k.separations
too_many k (End h l) = false

-- "05 h l | end; h x 256 + l lines came before it": "9 for the end count"
unfoldable pub miscounted : Passed → Frame → Bool
miscounted k (Header s o r) = false
miscounted k (Assign s r) = false
miscounted k (Permit r o m) = false
miscounted k (Separate x y) = false
miscounted k (End h l) = not (eqb (h * 256 + l) k.lines)

-- "4; 5 for header counts; 6; 7; 8; 9 for the end count"
unfoldable pub frame_refusals : Passed → Frame → List Refusal
frame_refusals k f =
    (4 if misplaced k f)
    ∷ (5 if oversized f)
    ∷ (6 if out_of_range k f)
    ∷ (7 if leb (key f) k.last)
    ∷ (8 if too_many k f)
    ∷ (9 if miscounted k f)
    ∷ []

-- "2; 3", and then those of the frame
unfoldable pub parsed_refusals : Passed → Parsed → List Refusal
parsed_refusals k (Err why) = (number why if true) ∷ []
parsed_refusals k (Ok f) = frame_refusals k f

-- "Within a line: 9 if the end line has passed; 2; 3; 4; 5 for header counts; 6; 7; 8; 9 for the end count"
unfoldable pub line_refusals : Passed → Parsed → List Refusal
line_refusals k p = (9 if k.ended) ∷ parsed_refusals k p

-- what is known after a line that is not refused
unfoldable pub next_line : Passed → Parsed → Passed
next_line k (Err why) = k
next_line k (Ok f) = next k f

-- "the first faulty line decides": what a whole text comes to, a refusal by its number and its line, or none
pub data CheckedText : Type 0 where
  Refused : ℕ → ℕ → CheckedText
  Accepted : CheckedText

-- the same of what code answers: "Where an answer is an enum, a definition gives this paper's number and values for each of its cases"
abbrev pub checked : {T : Type 0} → Result T RefusedText → CheckedText
checked (Ok value) = Accepted
checked (Err refused) = Refused (number refused.why) refused.line

-- "the first faulty line decides"; "If the text stops with no end line: 9, with the number of lines plus 1"
unfoldable pub check : Passed → List Parsed → CheckedText
check k [] = cond k.ended Accepted (Refused 9 (k.lines + 1))
check k (p ∷ ps) = elim (first_refusal (line_refusals k p)) [ zero ↦ check (next_line k p) ps | suc n ↦ Refused (suc n) (k.lines + 1) ]

-- what each line of a text comes to
unfoldable pub parsed_lines : List ℕ → List Parsed
parsed_lines t = map parse (lines t)

-- the frames among them
unfoldable pub frames_of : List Parsed → List Frame
frames_of [] = []
frames_of (Err why ∷ ps) = frames_of ps
frames_of (Ok f ∷ ps) = f ∷ frames_of ps
