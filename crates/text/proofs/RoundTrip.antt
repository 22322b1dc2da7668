-- Reading and writing, there and back: the accepted texts are exactly the written texts of sound sheets, one for each. Beside each
-- law with premises, the printed sheet of document 01 shows that they can be met.
use Prim.Native.Nat.{ℕ, ◌≤◌}
use mathlib.Core.Path.{◌≡◌, ap, refl, sym, subst, ◌∙◌}
use mathlib.Core.Logic.{◌↔◌}
use mathlib.Core.Bool.{Bool, true, false, cond}
use mathlib.Core.List.{List, map}
use native.Mathlib.Omega.{arith}
use lib.ListN.{length}
use borrow.Author.Tests.{le-ltb}
use Rattle.std.specs.Prelude.{Ok}
use Rattle.answers.specs.Sizes.{most_text}
use Rattle.answers.specs.Rows.{exceeds}
use Rattle.tables.specs.Sheet.{Sheet, Sound}
use Rattle.frames.specs.Frame.{text_of}
use Rattle.frames.specs.Check.{start, check, parsed_lines, frames_of, CheckedText, Refused, Accepted}
use Rattle.frames.proofs.Frames.{text_written}
use Rattle.frames.proofs.Checks.{accepted_frames, frames_again}
use Rattle.text.specs.Content.{content_of, frames_in, write_sheet}
use Rattle.text.specs.Reading.{refused, accepted, read_by, read_lines, read_text}
use Rattle.text.specs.Worked.{worked_text}
use Rattle.text.proofs.AText.{worked, reads_worked}
use Rattle.text.proofs.ReadBack.{read_back}
use Rattle.text.proofs.WriteBack.{frames_pass}
use Rattle.text.proofs.Added.{content_back}
use Rattle.text.proofs.Size.{text_fits, frames_bytes}

-- only a text within its size that passes is accepted, as what its frames say
accepted_as : (long : Bool) (v : CheckedText) (said t : Sheet) → cond long (refused 5 0) (read_by v said) ≡ accepted t → (v ≡ Accepted) × (said ≡ t)
unfolding read_by
accepted_as false Accepted said t e = (refl, cc)
accepted_as false (Refused n line) said t e = let z : ◌≡◌ {A = ℕ} 0 1 = cc in absurd (omega arith)
accepted_as true v said t e = let z : ◌≡◌ {A = ℕ} 0 1 = cc in absurd (omega arith)

-- an accepted text is the written text of its content, which is sound
written : (text : List ℕ) (t : Sheet) → read_text text ≡ accepted t → (write_sheet t ≡ text) × Sound t
unfolding read_text read_lines write_sheet
written text t e =
    let a = accepted_as (exceeds (length text) most_text) (check start (parsed_lines text)) (content_of (frames_of (parsed_lines text))) t e in
    let f = accepted_frames text a.0 in
    let w = read_back (frames_of (parsed_lines text)) f.of_bytes f.pass in (
      ap (λ (u : Sheet). text_of (frames_in u)) (sym a.1) ∙ ap text_of w.frames ∙ f.is_text,
      subst Sound a.1 w.sound,
    )

-- what is accepted is sound
pub accepted_sound : (text : List ℕ) {t : Sheet} → read_text text ≡ accepted t → Sound t
accepted_sound text {t} e = (written text t e).1

-- met by the sheet that document 01 prints: it is sound
pub worked_sound : Sound worked
worked_sound = accepted_sound worked_text reads_worked

-- "An accepted sheet read and written back has the same bytes"
pub read_write : (text : List ℕ) {t : Sheet} → read_text text ≡ accepted t → write_sheet t ≡ text
read_write text {t} e = (written text t e).0

worked_written : write_sheet worked ≡ worked_text
worked_written = read_write worked_text reads_worked

-- "sound tables written and read back are the same tables"
pub write_read : {t : Sheet} → Sound t → read_text (write_sheet t) ≡ accepted t
unfolding read_text read_lines read_by write_sheet
write_read {t} p =
    let g : parsed_lines (text_of (frames_in t)) ≡ map Ok (frames_in t) = text_written (frames_in t) (frames_bytes t p) in
    rw (le-ltb most_text (length (text_of (frames_in t))) (text_fits t p), g, frames_pass t p, frames_again (frames_in t), content_back t p)

worked_read : read_text (write_sheet worked) ≡ accepted worked
worked_read = write_read worked_sound

-- and their text is within its size
pub written_fits : {t : Sheet} → Sound t → length (write_sheet t) ≤ most_text
written_fits {t} p = text_fits t p

worked_fits : length (write_sheet worked) ≤ most_text
worked_fits = written_fits worked_sound

-- "So each content has one text": a text is accepted exactly if it is the written text of a sound sheet
pub accepted_exactly : (text : List ℕ) → ((t : Sheet) × (read_text text ≡ accepted t)) ↔ ((t : Sheet) × Sound t × (write_sheet t ≡ text))
accepted_exactly text = (
  λ a. (a.0, accepted_sound text a.1, read_write text a.1),
  λ w. (w.0, rw w.2 at (write_read w.1)),
)

-- accepted texts of one content are equal
pub one_text : (text₁ text₂ : List ℕ) {t : Sheet} → read_text text₁ ≡ accepted t → read_text text₂ ≡ accepted t → text₁ ≡ text₂
one_text text₁ text₂ e₁ e₂ = sym (read_write text₁ e₁) ∙ read_write text₂ e₂

worked_text_lem : worked_text ≡ write_sheet worked
worked_text_lem = one_text worked_text (write_sheet worked) reads_worked worked_read

-- "each content has one text": two sound sheets with one text are one sheet
pub one_content : {t₁ t₂ : Sheet} → Sound t₁ → Sound t₂ → write_sheet t₁ ≡ write_sheet t₂ → t₁ ≡ t₂
one_content p₁ p₂ e = let h : accepted _ ≡ accepted _ = sym (write_read p₁) ∙ ap read_text e ∙ write_read p₂ in cc

worked_content : worked ≡ worked
worked_content = one_content worked_sound worked_sound refl
