-- A text for every refusal, and two faults in one line: which number is answered, at which line. Then a line of each kind: its frame,
-- and what is known after it.
use Prim.Native.Nat.{ℕ}
use mathlib.Core.Path.{◌≡◌, refl}
use mathlib.Core.Bool.{true, false}
use mathlib.Core.List.{List, [], ◌∷◌, ◌++◌, map}
use Rattle.std.specs.Prelude.{Ok, Err}
use Rattle.answers.specs.declared.refused.Refused.TheVariants.{NoBytes, NoFrame, NoEnd}
use Rattle.tables.specs.Sheet.{counts}
use Rattle.digits.specs.Digit.{is_digit, digit_value, digit_byte, digit_pairs, to_bytes, to_digits}
use Rattle.digits.specs.Line.{joined, lines, non_empty, sound_line, line_of}
use Rattle.digits.specs.Text.{codes}
use Rattle.frames.specs.declared.Passed.{Passed}
use Rattle.frames.specs.declared.Frame.{Frame}
use Rattle.frames.specs.declared.Frame.TheVariants.{Header, Assign, Permit, Separate, End}
use Rattle.frames.specs.Frame.{frame_bytes, of_three, of_four, frame_of, parse, text_of, key}
use Rattle.frames.specs.Check.{passed, start, next, next_line, parsed_lines, frames_of, Refused, Accepted, checked}
use Rattle.frames.proofs.Verdicts.{bytes_verdict, verdict, separated}

pub record Passing : Type 0 where
  pub least : verdict "01000000\n050001\n" ≡ Accepted
  no_subjects : verdict "01000304\n050001\n" ≡ Accepted
  no_objects : verdict "01030004\n050001\n" ≡ Accepted
  no_roles : verdict "01030300\n050001\n" ≡ Accepted
  greatest_counts : verdict "01304030\n050001\n" ≡ Accepted
  greatest_numbers : verdict "01030304\n020203\n03030203\n040505\n050004\n" ≡ Accepted

-- "Any count may be 0": a header of zeros and its end line are accepted; so are the greatest counts, and numbers just below their counts
pub passing : Passing
unfolding verdict
passing =
    record { least = refl; no_subjects = refl; no_objects = refl; no_roles = refl; greatest_counts = refl; greatest_numbers = refl }

-- "2 | a line has a byte outside 0-9 and a-f, an odd count of digits, no digits, or no line feed"
pub record Number2 : Type 0 where
  capital : verdict "0103030A\n" ≡ Refused 2 1
  carriage_return : verdict "01030304\r\n" ≡ Refused 2 1
  odd_count : verdict "0103030\n" ≡ Refused 2 1
  no_digits : verdict "01030304\n\n050001\n" ≡ Refused 2 2
  no_line_feed : verdict "01030304\n050001" ≡ Refused 2 2

pub number_2 : Number2
unfolding verdict
number_2 = record { capital = refl; carriage_return = refl; odd_count = refl; no_digits = refl; no_line_feed = refl }

-- "3 | first byte is not 01 to 05, or the frame's length is not its kind's"
pub record Number3 : Type 0 where
  kind_0 : verdict "00030304\n" ≡ Refused 3 1
  kind_6 : verdict "01030304\n060000\n" ≡ Refused 3 2
  one_byte : verdict "01\n" ≡ Refused 3 1
  header_of_three : verdict "010303\n" ≡ Refused 3 1
  header_of_five : verdict "0103030400\n" ≡ Refused 3 1
  assignment_of_four : verdict "01030304\n02000000\n" ≡ Refused 3 2
  permission_of_three : verdict "01030304\n030000\n" ≡ Refused 3 2

pub number_3 : Number3
unfolding verdict
number_3 =
    record {
      kind_0 = refl;
      kind_6 = refl;
      one_byte = refl;
      header_of_three = refl;
      header_of_five = refl;
      assignment_of_four = refl;
      permission_of_three = refl;
    }

-- "4 | the first line is no header, or a later line is one", "5 for header counts"
pub record Number4And5 : Type 0 where
  no_header : verdict "050000\n" ≡ Refused 4 1
  later_header : verdict "01030304\n01030305\n" ≡ Refused 4 2
  subjects_49 : verdict "01310000\n050001\n" ≡ Refused 5 1
  objects_65 : verdict "01004100\n050001\n" ≡ Refused 5 1
  roles_49 : verdict "01000031\n050001\n" ≡ Refused 5 1

pub number_4_and_5 : Number4And5
unfolding verdict
number_4_and_5 = record { no_header = refl; later_header = refl; subjects_49 = refl; objects_65 = refl; roles_49 = refl }

-- "6 | a subject, role, object or entity is not below its count, or a mode or value is out of range"
pub record Number6 : Type 0 where
  subject : verdict "01030304\n020300\n" ≡ Refused 6 2
  assigned_role : verdict "01030304\n020004\n" ≡ Refused 6 2
  permitted_role : verdict "01030304\n03040001\n" ≡ Refused 6 2
  object : verdict "01030304\n03000301\n" ≡ Refused 6 2
  mode_0 : verdict "01030304\n03000000\n" ≡ Refused 6 2
  mode_4 : verdict "01030304\n03000004\n" ≡ Refused 6 2
  first_entity : verdict "01030304\n040600\n" ≡ Refused 6 2
  second_entity : verdict "01030304\n040006\n" ≡ Refused 6 2

pub number_6 : Number6
unfolding verdict
number_6 =
    record {
      subject = refl;
      assigned_role = refl;
      permitted_role = refl;
      object = refl;
      mode_0 = refl;
      mode_4 = refl;
      first_entity = refl;
      second_entity = refl;
    }

-- "7 | lines .. do not ascend strictly": "by first byte, then by the two bytes after it (the mode takes no part)"
pub record Number7 : Type 0 where
  same_line : verdict "01030304\n020000\n020000\n" ≡ Refused 7 3
  lower_kind : verdict "01030304\n03000001\n020101\n" ≡ Refused 7 3
  lower_second : verdict "01030304\n020100\n020001\n" ≡ Refused 7 3
  lower_third : verdict "01030304\n020001\n020000\n" ≡ Refused 7 3
  other_mode : verdict "01030304\n03000001\n03000002\n" ≡ Refused 7 3

pub number_7 : Number7
unfolding verdict
number_7 = record { same_line = refl; lower_kind = refl; lower_second = refl; lower_third = refl; other_mode = refl }

-- "8 | more than 64 separations"
pub record Number8 : Type 0 where
  sixty_four : bytes_verdict (separated 64 ++ codes "050041\n") ≡ Accepted
  sixty_five : bytes_verdict (separated 65) ≡ Refused 8 66

pub number_8 : Number8
unfolding bytes_verdict separated
number_8 = record { sixty_four = refl; sixty_five = refl }

-- "9 | no end line, a wrong count in it, or bytes after it"
pub record Number9 : Type 0 where
  empty_text : verdict "" ≡ Refused 9 1
  no_end_line : verdict "01030304\n020000\n" ≡ Refused 9 3
  wrong_count : verdict "01030304\n050002\n" ≡ Refused 9 2
  low_byte_first : verdict "01030304\n050100\n" ≡ Refused 9 2
  line_after : verdict "01030304\n050001\n050002\n" ≡ Refused 9 3
  empty_line_after : verdict "01030304\n050001\n\n" ≡ Refused 9 3

pub number_9 : Number9
unfolding verdict
number_9 =
    record {
      empty_text = refl;
      no_end_line = refl;
      wrong_count = refl;
      low_byte_first = refl;
      line_after = refl;
      empty_line_after = refl;
    }

-- two faults in one line, and in two lines
pub record Order : Type 0 where
  after_the_end : verdict "01030304\n050001\nz" ≡ Refused 9 3
  digit_before_kind : verdict "01030304\n06000z\n" ≡ Refused 2 2
  kind_before_header : verdict "01030304\n0103\n" ≡ Refused 3 2
  header_before_size : verdict "01030304\n01310304\n" ≡ Refused 4 2
  header_before_range : verdict "020000\n" ≡ Refused 4 1
  header_before_ascent : verdict "01030304\n01020304\n" ≡ Refused 4 2
  header_before_count : verdict "050001\n" ≡ Refused 4 1
  range_before_ascent : verdict "01030304\n03000001\n020300\n" ≡ Refused 6 3
  range_before_many : bytes_verdict (separated 64 ++ codes "040900\n") ≡ Refused 6 66
  ascent_before_many : bytes_verdict (separated 64 ++ codes "040000\n") ≡ Refused 7 66
  first_line_decides : verdict "01030304\n020300\n0z\n" ≡ Refused 6 2

pub order : Order
unfolding verdict bytes_verdict separated
order =
    record {
      after_the_end = refl;
      digit_before_kind = refl;
      kind_before_header = refl;
      header_before_size = refl;
      header_before_range = refl;
      header_before_ascent = refl;
      header_before_count = refl;
      range_before_ascent = refl;
      range_before_many = refl;
      ascent_before_many = refl;
      first_line_decides = refl;
    }

-- ---- frames
-- a line of each kind, as text and as frames
five_lines : List ℕ
unfolding codes
five_lines = codes "01030405\n020201\n03010003\n040004\n050004\n"

five_frames : List Frame
five_frames = Header 3 4 5 ∷ Assign 2 1 ∷ Permit 1 0 3 ∷ Separate 0 4 ∷ End 0 4 ∷ []

pub record OneEach : Type 0 where
  written : text_of five_frames ≡ five_lines
  read : parsed_lines five_lines ≡ map Ok five_frames
  picked : frames_of (Ok (Assign 2 1) ∷ Err NoBytes ∷ Err NoFrame ∷ Ok (End 0 4) ∷ []) ≡ Assign 2 1 ∷ End 0 4 ∷ []

-- "one frame a line": five lines, one of each kind, are the text of five frames and are read as these; a line that is none gives no frame
pub one_each : OneEach
unfolding five_lines five_frames codes text_of frame_bytes line_of to_digits digit_byte frames_of parsed_lines parse frame_of of_three of_four lines joined sound_line non_empty digit_pairs is_digit to_bytes digit_value
one_each = record { written = refl; read = refl; picked = refl }

-- what is known before them and after each
pub record Known : Type 0 where
  at_start : start ≡ passed 0 false (counts 0 0 0) 0 0
  header : next start (Header 3 4 5) ≡ passed 1 false (counts 3 4 5) 66308 0
  assignment : next (passed 1 false (counts 3 4 5) 66308 0) (Assign 2 1) ≡ passed 2 false (counts 3 4 5) 131585 0
  permission : next (passed 2 false (counts 3 4 5) 131585 0) (Permit 1 0 3) ≡ passed 3 false (counts 3 4 5) 196864 0
  separation : next (passed 3 false (counts 3 4 5) 196864 0) (Separate 0 4) ≡ passed 4 false (counts 3 4 5) 262148 1
  other_header : next (passed 4 false (counts 3 4 5) 262148 1) (Header 6 7 8) ≡ passed 5 false (counts 6 7 8) 67079 1
  end : next (passed 4 false (counts 3 4 5) 262148 1) (End 0 4) ≡ passed 5 true (counts 3 4 5) 327684 1
  frame : next_line start (Ok (Header 3 4 5)) ≡ next start (Header 3 4 5)
  no_bytes : next_line (passed 1 false (counts 3 4 5) 66308 0) (Err NoBytes) ≡ passed 1 false (counts 3 4 5) 66308 0
  no_frame : next_line (passed 1 false (counts 3 4 5) 66308 0) (Err NoFrame) ≡ passed 1 false (counts 3 4 5) 66308 0

pub known : Known
unfolding start next next_line key
known =
    record {
      at_start = refl;
      header = refl;
      assignment = refl;
      permission = refl;
      separation = refl;
      other_header = refl;
      end = refl;
      frame = refl;
      no_bytes = refl;
      no_frame = refl;
    }

-- "Where an answer is an enum, a definition gives this paper's number and values for each of its cases": no end line after two lines, and
-- a text that is accepted
pub record AsCode : Type 0 where
  refused : checked {T = Passed} (Err (record { why = NoEnd; line = 3 })) ≡ Refused 9 3
  accepted : checked (Ok (passed 2 true (counts 3 4 5) 327682 0)) ≡ Accepted

pub as_code : AsCode
as_code = record { refused = refl; accepted = refl }
