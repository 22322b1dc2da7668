-- Frames: their bytes, and the order of their lines.
use Rattle.std.specs.Prelude.{ℕ, ◌+◌, ◌*◌, ◌<◌, ◌≡◌, ◌⊎◌, cond, Result, Ok, Err, List, [], ◌∷◌, ◌++◌, eqb, get_or}
use Rattle.answers.specs.declared.refused.Refused.{Refused as Why}
use Rattle.answers.specs.declared.refused.Refused.TheVariants.{NoBytes, NoFrame}
use Rattle.tables.specs.Sheet.{PairBefore, pair_key}
use Rattle.digits.specs.Digit.{to_bytes}
use Rattle.digits.specs.Line.{Line, sound_line, line_of}
use Rattle.frames.specs.declared.Frame.{Frame}
use Rattle.frames.specs.declared.Frame.TheVariants.{Header, Assign, Permit, Separate, End}

-- "Bytes of a frame": 01 S O R, 02 s r, 03 r o m, 04 x y, 05 h l
unfoldable pub frame_bytes : Frame → List ℕ
frame_bytes (Header s o r) = 1 ∷ s ∷ o ∷ r ∷ []
frame_bytes (Assign s r) = 2 ∷ s ∷ r ∷ []
frame_bytes (Permit r o m) = 3 ∷ r ∷ o ∷ m ∷ []
frame_bytes (Separate x y) = 4 ∷ x ∷ y ∷ []
frame_bytes (End h l) = 5 ∷ h ∷ l ∷ []

-- what a line comes to: "one frame a line", or the refusal of a line that is none, 2 or 3
abbrev pub Parsed : Type 0
Parsed = Result Frame Why

-- three bytes and four: "3 | first byte is not 01 to 05, or the frame's length is not its kind's"
unfoldable pub of_three : ℕ → ℕ → ℕ → Parsed
of_three k a b = cond (eqb k 2) (Ok (Assign a b)) (cond (eqb k 4) (Ok (Separate a b)) (cond (eqb k 5) (Ok (End a b)) (Err NoFrame)))

-- "01 S O R" and "03 r o m" have four
unfoldable pub of_four : ℕ → ℕ → ℕ → ℕ → Parsed
of_four k a b c = cond (eqb k 1) (Ok (Header a b c)) (cond (eqb k 3) (Ok (Permit a b c)) (Err NoFrame))

-- the frame that bytes are
unfoldable pub frame_of : List ℕ → Parsed
frame_of [] = Err NoFrame
frame_of (k ∷ []) = Err NoFrame
frame_of (k ∷ a ∷ []) = Err NoFrame
frame_of (k ∷ a ∷ b ∷ []) = of_three k a b
frame_of (k ∷ a ∷ b ∷ c ∷ []) = of_four k a b c
frame_of (k ∷ a ∷ b ∷ c ∷ d ∷ t) = Err NoFrame

-- "one frame a line"
unfoldable pub parse : Line → Parsed
parse l = cond (sound_line l) (frame_of (to_bytes l.bytes)) (Err NoBytes)

-- the text of frames, a line each
unfoldable pub text_of : List Frame → List ℕ
text_of [] = []
text_of (f ∷ fs) = line_of (frame_bytes f) ++ text_of fs

-- byte i of a frame
abbrev pub byte_of : Frame → ℕ → ℕ
byte_of f i = get_or (frame_bytes f) i 0

-- "Lines ascend strictly: by first byte, then by the two bytes after it (the mode takes no part)": f stands before g
abbrev pub LineBefore : Frame → Frame → Type 0
LineBefore f g =
    (byte_of f 0 < byte_of g 0) ⊎ ((byte_of f 0 ≡ byte_of g 0) × PairBefore (byte_of f 1) (byte_of f 2) (byte_of g 1) (byte_of g 2))

-- for bytes, the number that ascends so
unfoldable pub key : Frame → ℕ
key (Header s o r) = 1 * 65536 + pair_key s o
key (Assign s r) = 2 * 65536 + pair_key s r
key (Permit r o m) = 3 * 65536 + pair_key r o
key (Separate x y) = 4 * 65536 + pair_key x y
key (End h l) = 5 * 65536 + pair_key h l
