-- Frames that pass are those of their own content, and their content is sound.
use Prim.Native.Nat.{ℕ, ◌+◌, ◌*◌, ◌<◌}
use mathlib.Core.Path.{◌≡◌, ap, refl, sym, ◌∙◌}
use mathlib.Core.Bool.{false, true≢false}
use mathlib.Core.List.{List, [], ◌∷◌, ◌++◌, map, append_assoc}
use native.Mathlib.Omega.{arith}
use lib.Arith.{digits_div, digits_mod}
use lib.ListN.{length, length-append}
use borrow.Author.Tests.{ltb-false}
use Rattle.std.specs.Prelude.{Ok}
use Rattle.tables.specs.Sheet.{Sheet, Sound, counts}
use Rattle.digits.proofs.Digits.{Bytes}
use Rattle.frames.specs.declared.Frame.{Frame}
use Rattle.frames.specs.declared.Frame.TheVariants.{Header, Assign, Permit, Separate, End}
use Rattle.frames.specs.declared.Passed.{Passed}
use Rattle.frames.specs.Frame.{frame_bytes, key}
use Rattle.frames.specs.Check.{passed, start, next, misplaced, check, Accepted}
use Rattle.frames.proofs.Frames.{FrameBytes}
use Rattle.frames.proofs.Checks.{Fine, frame_passed, end_lacks, nothing_after}
use Rattle.frames.proofs.Ranges.{header_fits, assign_range, permit_range, separate_range, separate_room, end_count}
use Rattle.text.specs.Content.{blank, add, add_all, content_of, opened, closing, frames_in}
use Rattle.text.proofs.Kept.{sound_blank, sound_assign, sound_permit, sound_separate}
use Rattle.text.proofs.Grown.{Reached, reached_blank, opened_blank, grow_assign, grow_permit, grow_separate, reached_assign, reached_permit, reached_separate}

-- after the lines fs, of which k is known, the tables are t
record Built (fs : List Frame) (k : Passed) (t : Sheet) : Type 0 where
  going : k.ended ≡ false
  counted : k.counts ≡ t.counts
  lines : k.lines ≡ length fs
  pairs : length t.separations ≡ 2 * k.separations
  sound : Sound t
  reached : Reached t k.last
  frames : opened t ≡ fs

built_header : (s o r : ℕ) → Fine start (Header s o r) → Built (Header s o r ∷ []) (next start (Header s o r)) (blank (counts s o r))
unfolding next start blank
built_header s o r p =
    let x = (header_fits s o r).0 p.not_oversized in
    record {
      going = refl;
      counted = refl;
      lines = refl;
      pairs = refl;
      sound = sound_blank (counts s o r) x.0 x.1 x.2;
      reached = reached_blank (counts s o r) _;
      frames = opened_blank (counts s o r);
    }

module _ (fs : List Frame) (k : Passed) (t : Sheet) (b : Built fs k t) where
  built_after : (f : Frame) (u : Sheet) (last separations : ℕ) → t.counts ≡ u.counts → length u.separations ≡ 2 * separations →
      Sound u → Reached u last → opened u ≡ opened t ++ (f ∷ []) →
      Built (fs ++ (f ∷ [])) (passed (k.lines + 1) k.ended k.counts last separations) u
  built_after f u last separations same pairs sound reached grows =
      record {
        going = b.going;
        counted = b.counted ∙ same;
        lines = omega (arith, b.lines, length-append fs (f ∷ []));
        pairs = pairs;
        sound = sound;
        reached = reached;
        frames = grows ∙ rw b.frames;
      }

  built_assign : (s r : ℕ) → Fine k (Assign s r) → Built (fs ++ (Assign s r ∷ [])) (next k (Assign s r)) (add t (Assign s r))
  unfolding next add
  built_assign s r p =
      let x = rw b.counted at ((assign_range k s r).0 p.in_range) in
      built_after (Assign s r) (add t (Assign s r)) _ _ refl b.pairs (sound_assign t b.sound s r)
      (reached_assign t b.sound k.last b.reached s r x.1 p.ascends)
      (grow_assign t b.sound k.last b.reached s r x.0 x.1 p.ascends)

  built_permit : (r o m : ℕ) → Fine k (Permit r o m) → Built (fs ++ (Permit r o m ∷ [])) (next k (Permit r o m)) (add t (Permit r o m))
  unfolding next add
  built_permit r o m p =
      let x = rw b.counted at ((permit_range k r o m).0 p.in_range) in
      built_after (Permit r o m) (add t (Permit r o m)) _ _ refl b.pairs (sound_permit t b.sound r o m x.3)
      (reached_permit t b.sound k.last b.reached r o m x.1 p.ascends)
      (grow_permit t b.sound k.last b.reached r o m x.0 x.1 x.2 p.ascends)

  built_separate : (x y : ℕ) → Fine k (Separate x y) → Built (fs ++ (Separate x y ∷ [])) (next k (Separate x y)) (add t (Separate x y))
  unfolding next add key
  built_separate x y p =
      let z = rw b.counted at ((separate_range k x y).0 p.in_range) in
      let size : length t.separations ≡ 2 * b.sound.count = b.sound.separations_size in
      built_after (Separate x y) (add t (Separate x y)) _ _ refl (length-append t.separations (x ∷ y ∷ []) ∙ omega (arith, b.pairs))
      (sound_separate t b.sound x y (omega (arith, b.pairs, (separate_room k x y).0 p.not_too_many)) z.0 z.1
      (λ i h. omega (arith, p.ascends, b.reached.separations i (omega arith))))
      (reached_separate t b.sound k.last b.reached x y p.ascends)
      (grow_separate t b.sound k.last b.reached x y)

  late_header : (s o r : ℕ) → Fine k (Header s o r) → ⊥
  unfolding misplaced opened
  late_header s o r p = omega (arith, b.lines, ap length b.frames, ltb-false 0 k.lines p.in_place)

  right_end : (h l : ℕ) → Fine k (End h l) → l < 256 → frames_in t ≡ fs ++ (End h l ∷ [])
  unfolding frames_in closing
  right_end h l p small =
      let e : h * 256 + l ≡ length (opened t) = (end_count k h l).0 p.well_counted ∙ b.lines ∙ ap length (sym b.frames) in
      rw (← e, digits_div h small, digits_mod h small, b.frames)

-- the content of all frames, once the last has passed
pub record Whole (fs : List Frame) (t : Sheet) : Type 0 where
  pub frames : frames_in t ≡ fs
  pub sound : Sound t

whole_more : (fs gs : List Frame) (f : Frame) (t : Sheet) → Whole ((fs ++ (f ∷ [])) ++ gs) t → Whole (fs ++ (f ∷ gs)) t
whole_more fs gs f t w = rw append_assoc at w

grown : (gs fs : List Frame) (k : Passed) (t : Sheet) → Built fs k t → FrameBytes gs → check k (map Ok gs) ≡ Accepted →
    Whole (fs ++ gs) (add_all t gs)
unfolding FrameBytes Bytes frame_bytes add_all next add
grown [] fs k t b y h = absurd (end_lacks k b.going h)
grown (Header s o r ∷ gs) fs k t b y h = absurd (late_header fs k t b s o r (frame_passed k (Header s o r) (map Ok gs) h).0)
grown (Assign s r ∷ gs) fs k t b y h =
    let x = frame_passed k (Assign s r) (map Ok gs) h in
    whole_more fs gs _ _ (grown gs _ _ _ (built_assign fs k t b s r x.0) y.1 x.1)
grown (Permit r o m ∷ gs) fs k t b y h =
    let x = frame_passed k (Permit r o m) (map Ok gs) h in
    whole_more fs gs _ _ (grown gs _ _ _ (built_permit fs k t b r o m x.0) y.1 x.1)
grown (Separate v w ∷ gs) fs k t b y h =
    let x = frame_passed k (Separate v w) (map Ok gs) h in
    whole_more fs gs _ _ (grown gs _ _ _ (built_separate fs k t b v w x.0) y.1 x.1)
grown (End v l ∷ []) fs k t b y h =
    record { frames = right_end fs k t b v l (frame_passed k (End v l) [] h).0 y.0.1.1.0; sound = b.sound }
grown (End v l ∷ f ∷ gs) fs k t b y h =
    absurd (nothing_after (next k (End v l)) f (map Ok gs) refl (frame_passed k (End v l) (map Ok (f ∷ gs)) h).1)

pub read_back : (fs : List Frame) → FrameBytes fs → check start (map Ok fs) ≡ Accepted → Whole fs (content_of fs)
unfolding FrameBytes content_of add_all add start misplaced
read_back [] y h = absurd (end_lacks start refl h)
read_back (Header s o r ∷ gs) y h =
    let x = frame_passed start (Header s o r) (map Ok gs) h in
    grown gs (Header s o r ∷ []) _ _ (built_header s o r x.0) y.1 x.1
read_back (Assign s r ∷ gs) y h = absurd (true≢false (frame_passed start (Assign s r) (map Ok gs) h).0.in_place)
read_back (Permit r o m ∷ gs) y h = absurd (true≢false (frame_passed start (Permit r o m) (map Ok gs) h).0.in_place)
read_back (Separate v w ∷ gs) y h = absurd (true≢false (frame_passed start (Separate v w) (map Ok gs) h).0.in_place)
read_back (End v l ∷ gs) y h = absurd (true≢false (frame_passed start (End v l) (map Ok gs) h).0.in_place)
