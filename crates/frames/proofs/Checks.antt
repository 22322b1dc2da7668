-- One step of the check: what a line that passes has passed, how the check goes on, and that a text that passes is one of frames.
use Prim.Native.Nat.{ℕ, zero, suc, ◌+◌, ◌≤◌, ◌<◌}
use mathlib.Core.Path.{◌≡◌, ap, refl, sym, ◌∙◌}
use mathlib.Core.Logic.{◌≢◌}
use mathlib.Core.Bool.{Bool, true, false, cond, true≢false}
use mathlib.Core.List.{List, [], ◌∷◌, map}
use native.Mathlib.Omega.{arith}
use borrow.Author.Tests.{leb-false, lt-leb}
use Rattle.std.specs.Prelude.{Ok, Err}
use Rattle.answers.specs.Call.{◌if◌, first_refusal}
use Rattle.answers.specs.declared.refused.Refused.{Refused as Why}
use Rattle.answers.specs.Refused.{number}
use Rattle.answers.proofs.Exits.{some_number}
use Rattle.answers.proofs.Calls.{passed as none-held}
use lib.Dec.{eqb}
use lib.ListN.{length}
use Rattle.digits.specs.Line.{Line, line, feed, joined, lines}
use Rattle.frames.specs.declared.Frame.{Frame}
use Rattle.frames.specs.declared.Frame.TheVariants.{Header, Assign, Permit, Separate, End}
use Rattle.frames.specs.declared.Passed.{Passed}
use Rattle.frames.specs.Frame.{parse, text_of, key, Parsed}
use Rattle.frames.specs.Check.{start, next, misplaced, oversized, out_of_range, too_many, miscounted, frame_refusals, parsed_refusals, line_refusals, next_line, check, parsed_lines, frames_of, Refused, Accepted}
use Rattle.frames.proofs.Frames.{FrameBytes, text_read}

-- a frame that passes after the lines k: none of its refusals holds
pub record Fine (k : Passed) (f : Frame) : Type 0 where
  pub not_ended : k.ended ≡ false
  pub in_place : misplaced k f ≡ false
  pub not_oversized : oversized f ≡ false
  pub in_range : out_of_range k f ≡ false
  pub ascends : k.last < key f
  pub not_too_many : too_many k f ≡ false
  pub well_counted : miscounted k f ≡ false

pub fine_of : (k : Passed) (f : Frame) → first_refusal (line_refusals k (Ok f)) ≡ 0 → Fine k f
unfolding line_refusals parsed_refusals frame_refusals
fine_of k f e =
    let a = none-held _ k.ended _ tt e in
    let b = none-held _ (misplaced k f) _ tt a.1 in
    let c = none-held _ (oversized f) _ tt b.1 in
    let d = none-held _ (out_of_range k f) _ tt c.1 in
    let g = none-held _ _ _ tt d.1 in
    let h = none-held _ (too_many k f) _ tt g.1 in
    let i = none-held _ (miscounted k f) _ tt h.1 in
    record {
      not_ended = a.0;
      in_place = b.0;
      not_oversized = c.0;
      in_range = d.0;
      ascends = leb-false (key f) k.last g.0;
      not_too_many = h.0;
      well_counted = i.0;
    }

pub of_fine : (k : Passed) (f : Frame) → Fine k f → first_refusal (line_refusals k (Ok f)) ≡ 0
unfolding line_refusals parsed_refusals frame_refusals first_refusal
of_fine k f p =
    simp (
      p.not_ended,
      p.in_place,
      p.not_oversized,
      p.in_range,
      lt-leb (key f) k.last p.ascends,
      p.not_too_many,
      p.well_counted,
    )

-- ---- how the check goes on
pub check_go : (k : Passed) (p : Parsed) (ps : List Parsed) → first_refusal (line_refusals k p) ≡ 0 → check k (p ∷ ps) ≡ check (next_line k p) ps
unfolding check
check_go k p ps e = rw (e, check)

pub check_stop : (k : Passed) (p : Parsed) (ps : List Parsed) (n : ℕ) → first_refusal (line_refusals k p) ≡ suc n →
    check k (p ∷ ps) ≡ Refused (suc n) (k.lines + 1)
unfolding check
check_stop k p ps n e = rw (e, check)

pub not_refused : {n line : ℕ} → Refused n line ≡ Accepted → ⊥
not_refused e = let z : ◌≡◌ {A = ℕ} 0 1 = cc in omega arith

pub line_passed : (k : Passed) (p : Parsed) (ps : List Parsed) → check k (p ∷ ps) ≡ Accepted →
    (first_refusal (line_refusals k p) ≡ 0) × (check (next_line k p) ps ≡ Accepted)
line_passed k p ps h = go (first_refusal (line_refusals k p)) refl
  where
    go : (n : ℕ) → first_refusal (line_refusals k p) ≡ n → (first_refusal (line_refusals k p) ≡ 0) × (check (next_line k p) ps ≡ Accepted)
    go zero e = (e, rw (check_go k p ps e) at h)
    go (suc n) e = absurd (not_refused (rw (check_stop k p ps n e) at h))

-- "0 | done" is the number of no refusal
pub refused_number : (k : Passed) (ps : List Parsed) (n line : ℕ) → check k ps ≡ Refused n line → n ≢ 0
unfolding check
refused_number k [] n line h = go k.ended h
  where
    go : (b : Bool) → cond b Accepted (Refused 9 (k.lines + 1)) ≡ Refused n line → n ≢ 0
    go true e z = absurd (not_refused (sym e))
    go false e z = let same : 9 ≡ n = cc in omega arith
refused_number k (p ∷ ps) n line h = go (first_refusal (line_refusals k p)) refl (refused_number (next_line k p) ps n line)
  where
    go : (m : ℕ) → first_refusal (line_refusals k p) ≡ m → (check (next_line k p) ps ≡ Refused n line → n ≢ 0) → n ≢ 0
    go zero e later z = later (rw (check_go k p ps e) at h) z
    go (suc m) e later z = let same : suc m ≡ n = cc (check_stop k p ps m e) in omega arith

-- a frame that passes, and the lines after it; and back
pub frame_passed : (k : Passed) (f : Frame) (ps : List Parsed) → check k (Ok f ∷ ps) ≡ Accepted → Fine k f × (check (next k f) ps ≡ Accepted)
unfolding next_line
frame_passed k f ps h = let x = line_passed k (Ok f) ps h in (fine_of k f x.0, x.1)

pub frame_passes : (k : Passed) (f : Frame) (ps : List Parsed) → Fine k f → check (next k f) ps ≡ Accepted → check k (Ok f ∷ ps) ≡ Accepted
unfolding next_line
frame_passes k f ps p h = check_go k (Ok f) ps (of_fine k f p) ∙ h

-- "no end line", and "bytes after it"
pub end_lacks : (k : Passed) → k.ended ≡ false → check k [] ≡ Accepted → ⊥
unfolding check
end_lacks k e h = not_refused (rw e at h)

pub nothing_after : (k : Passed) (f : Frame) (ps : List Parsed) → k.ended ≡ true → check k (Ok f ∷ ps) ≡ Accepted → ⊥
nothing_after k f ps e h = true≢false (sym e ∙ (frame_passed k f ps h).0.not_ended)

-- a line more is counted once at most
pub more_lines : (k : Passed) (x : Parsed) → (next_line k x).lines ≤ k.lines + 1
unfolding next_line next
more_lines k (Err why) = omega arith
more_lines k (Ok (Header s o r)) = omega arith
more_lines k (Ok (Assign s r)) = omega arith
more_lines k (Ok (Permit r o m)) = omega arith
more_lines k (Ok (Separate v u)) = omega arith
more_lines k (Ok (End v l)) = omega arith

-- a text has at most as many lines as bytes
pub few_lines : (t : List ℕ) → length (parsed_lines t) ≤ length t
unfolding parsed_lines lines joined
few_lines [] = omega arith
few_lines (b ∷ t) = go (eqb b feed) (few_lines t)
  where
    longer : (ls : List Line) → length (map parse ls) ≤ length t → length (map parse (joined b ls)) ≤ suc (length t)
    longer [] h = omega arith
    longer (l ∷ ls) h = omega arith

    go : (x : Bool) → length (map parse (lines t)) ≤ length t → length (map parse (cond x (line [] true ∷ lines t) (joined b (lines t)))) ≤ suc (length t)
    go true h = omega arith
    go false h = longer (lines t) h

-- ---- a text that passes is one of frames
pub err_refused : (k : Passed) (why : Why) → first_refusal (line_refusals k (Err why)) ≡ 0 → ⊥
unfolding first_refusal line_refusals parsed_refusals
err_refused k why = go k.ended
  where
    go : (t : Bool) → first_refusal ((9 if t) ∷ (number why if true) ∷ []) ≡ 0 → ⊥
    go true e = omega arith
    go false e = some_number why e

pub all_frames : (k : Passed) (ps : List Parsed) → check k ps ≡ Accepted → ps ≡ map Ok (frames_of ps)
unfolding frames_of next_line line_refusals parsed_refusals
all_frames k [] h = refl
all_frames k (Err why ∷ ps) h = absurd (err_refused k why (line_passed k (Err why) ps h).0)
all_frames k (Ok f ∷ ps) h = ap (λ (l : List Parsed). Ok f ∷ l) (all_frames (next k f) ps (frame_passed k f ps h).1)

pub frames_again : (fs : List Frame) → frames_of (map Ok fs) ≡ fs
unfolding frames_of
frames_again [] = refl
frames_again (f ∷ fs) = ap (λ (l : List Frame). f ∷ l) (frames_again fs)

-- "one frame a line": an accepted text is the text of its frames
pub record TextOf (text : List ℕ) (fs : List Frame) : Type 0 where
  pub is_text : text_of fs ≡ text
  pub of_bytes : FrameBytes fs
  pub pass : check start (map Ok fs) ≡ Accepted

pub accepted_frames : (text : List ℕ) → check start (parsed_lines text) ≡ Accepted → TextOf text (frames_of (parsed_lines text))
accepted_frames text h =
    let g : parsed_lines text ≡ map Ok (frames_of (parsed_lines text)) = all_frames start (parsed_lines text) h in
    let r = text_read text (frames_of (parsed_lines text)) g in
    record { is_text = r.0; of_bytes = r.1; pass = rw g at h }
