-- The frames of a sound sheet are of bytes, and its text is within the size of a text.
use Prim.Native.Nat.{ℕ, zero, suc, ◌+◌, ◌*◌, ◌≤◌}
use mathlib.Core.Path.{◌≡◌, refl}
use mathlib.Core.List.{List, [], ◌∷◌, ◌++◌}
use native.Mathlib.Nat.{mul-suc, mul-le-mul}
use native.Mathlib.Omega.{arith}
use lib.ListN.{length, length-append}
use Rattle.tables.specs.declared.Counts.{Counts}
use Rattle.answers.specs.Sizes.{most_subjects, most_objects, most_roles, most_text}
use Rattle.tables.specs.Sheet.{Sheet, Sound}
use Rattle.digits.specs.Digit.{to_digits}
use Rattle.digits.specs.Line.{line_of}
use Rattle.digits.proofs.Digits.{Bytes}
use Rattle.frames.specs.declared.Frame.{Frame}
use Rattle.frames.specs.Frame.{frame_bytes, text_of}
use Rattle.frames.proofs.Frames.{FrameBytes}
use Rattle.text.specs.Content.{present, assign_at, permit_at, separates as separateFrames, body, opened, closing, frames_in, write_sheet}
use Rattle.text.proofs.Runs.{Run, none, assigns, permits, separates}
use Rattle.text.proofs.WriteBack.{body_run}

-- ---- the length of a text
text_append : (fs gs : List Frame) → length (text_of (fs ++ gs)) ≡ length (text_of fs) + length (text_of gs)
unfolding text_of
text_append [] gs = omega arith
text_append (f ∷ fs) gs =
    omega (arith, length-append (line_of (frame_bytes f)) (text_of (fs ++ gs)), length-append (line_of (frame_bytes f)) (text_of fs), text_append fs gs)

present_size : (size : ℕ) (frame : ℕ → ℕ → Frame) → ((i v : ℕ) → length (line_of (frame_bytes (frame i v))) ≡ size) →
    (t : List ℕ) (i : ℕ) → length (text_of (present frame i t)) ≤ size * length t
unfolding present text_of
present_size size frame e [] i = omega arith
present_size size frame e (zero ∷ t) i = omega (arith, mul-suc size (length t), present_size size frame e t (suc i))
present_size size frame e (suc v ∷ t) i =
    omega (
      arith,
      mul-suc size (length t),
      e i (suc v),
      length-append (line_of (frame_bytes (frame i (suc v)))) (text_of (present frame (suc i) t)),
      present_size size frame e t (suc i),
    )

separates_size : (t : List ℕ) → 2 * length (text_of (separateFrames t)) ≤ 7 * length t
unfolding separateFrames text_of line_of to_digits frame_bytes
separates_size [] = omega arith
separates_size (x ∷ []) = omega arith
separates_size (x ∷ y ∷ t) = omega (arith, separates_size t)

-- a line has a byte at least
lines_few : (fs : List Frame) → length fs ≤ length (text_of fs)
unfolding text_of line_of
lines_few [] = omega arith
lines_few (f ∷ fs) =
    omega (
      arith,
      length-append (to_digits (frame_bytes f) ++ (10 ∷ [])) (text_of fs),
      length-append (to_digits (frame_bytes f)) (10 ∷ []),
      lines_few fs,
    )

-- ---- frames of bytes
module _ (c : Counts) (s : c.subjects ≤ most_subjects) (o : c.objects ≤ most_objects) (r : c.roles ≤ most_roles) where
  -- those of a run, and one more
  run_bytes : {lo hi n : ℕ} {fs : List Frame} → Run c lo hi n fs → (f : Frame) → Bytes (frame_bytes f) → FrameBytes (fs ++ (f ∷ []))
  unfolding FrameBytes Bytes frame_bytes
  run_bytes (none h) f b = (b, tt)
  run_bytes (assigns hs hr up rest) f b = (omega arith, run_bytes rest f b)
  run_bytes (permits hr ho some mode up rest) f b = (omega arith, run_bytes rest f b)
  run_bytes (separates hx hy up rest) f b = (omega arith, run_bytes rest f b)

module _ (t : Sheet) (p : Sound t) where
  body_fits : length (text_of (body t)) ≤ 44224
  unfolding body assign_at permit_at line_of to_digits frame_bytes
  body_fits =
      let assigned = present (assign_at t.counts.roles) 0 t.assignment in
      let permitted = present (permit_at t.counts.objects) 0 t.permission in
      omega (
        arith,
        text_append assigned (permitted ++ separateFrames t.separations),
        text_append permitted (separateFrames t.separations),
        present_size 7 (assign_at t.counts.roles) (λ i v. refl) t.assignment 0,
        present_size 9 (permit_at t.counts.objects) (λ i v. refl) t.permission 0,
        separates_size t.separations,
        p.separations_size,
        p.separations_fit,
        p.assignment_size,
        p.permission_size,
        mul-le-mul p.counts_fit.subjects p.counts_fit.roles,
        mul-le-mul p.counts_fit.roles p.counts_fit.objects,
      )

  pub text_fits : length (write_sheet t) ≤ most_text
  unfolding write_sheet frames_in opened text_of line_of to_digits frame_bytes closing
  text_fits = omega (arith, text_append (body t) (closing (length (opened t)) ∷ []), body_fits)

  pub frames_bytes : FrameBytes (frames_in t)
  unfolding frames_in opened FrameBytes Bytes frame_bytes closing
  frames_bytes = (
    omega (arith, p.counts_fit.subjects, p.counts_fit.objects, p.counts_fit.roles),
    run_bytes t.counts p.counts_fit.subjects p.counts_fit.objects p.counts_fit.roles (body_run t p)
        (closing (length (opened t))) (omega (arith, lines_few (body t), body_fits)),
  )
