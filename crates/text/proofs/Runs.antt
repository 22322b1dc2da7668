-- Frames in range whose keys rise pass, with the right end line after them.
use Prim.Native.Nat.{ℕ, suc, ◌+◌, ◌≤◌, ◌<◌}
use mathlib.Core.Path.{◌≡◌, refl, ◌∙◌}
use mathlib.Core.Bool.{false}
use mathlib.Core.List.{List, [], ◌∷◌, ◌++◌, map}
use native.Mathlib.Nat.{le_trans, le_refl, lt_of_lt_of_le, div-add-mod'}
use native.Mathlib.Omega.{arith}
use lib.Dec.{eqb}
use lib.ListN.{length}
use borrow.Author.Tests.{ne_eqb}
use Rattle.std.specs.Prelude.{Ok}
use Rattle.tables.specs.declared.Counts.{Counts}
use Rattle.tables.specs.Sheet.{entities}
use Rattle.answers.specs.Sizes.{most_separations}
use Rattle.frames.specs.declared.Frame.{Frame}
use Rattle.frames.specs.declared.Frame.TheVariants.{Assign, Permit, Separate}
use Rattle.frames.specs.declared.Passed.{Passed}
use Rattle.frames.specs.Frame.{key}
use Rattle.frames.specs.Check.{passed, next, misplaced, oversized, out_of_range, too_many, miscounted, check, Accepted}
use Rattle.frames.proofs.Checks.{Fine, frame_passes}
use Rattle.frames.proofs.Ranges.{assign_range, permit_range, separate_range, separate_room, end_count}
use Rattle.text.specs.Content.{closing}
use Rattle.text.proofs.TableKeys.{line_key}

-- frames between a header with the counts c and the end: in range, with keys that rise strictly from lo to below hi, and n of them
-- separations
pub data Run (c : Counts) : ℕ → ℕ → ℕ → List Frame → Type 0 where
  none : {lo hi : ℕ} → lo ≤ hi → Run c lo hi 0 []
  assigns : {s r lo hi n : ℕ} {fs : List Frame} → s < c.subjects → r < c.roles → lo ≤ key (Assign s r) →
      Run c (suc (key (Assign s r))) hi n fs → Run c lo hi n (Assign s r ∷ fs)
  permits : {r o m lo hi n : ℕ} {fs : List Frame} → r < c.roles → o < c.objects → 1 ≤ m → m ≤ 3 → lo ≤ key (Permit r o m) →
      Run c (suc (key (Permit r o m))) hi n fs → Run c lo hi n (Permit r o m ∷ fs)
  separates : {x y lo hi n : ℕ} {fs : List Frame} → x < entities c → y < entities c → lo ≤ key (Separate x y) →
      Run c (suc (key (Separate x y))) hi n fs → Run c lo hi (suc n) (Separate x y ∷ fs)

pub run_from : {c : Counts} {lo mid hi n : ℕ} {fs : List Frame} → lo ≤ mid → Run c mid hi n fs → Run c lo hi n fs
run_from l (none h) = none (le_trans l h)
run_from l (assigns hs hr up rest) = assigns hs hr (le_trans l up) rest
run_from l (permits hr ho some mode up rest) = permits hr ho some mode (le_trans l up) rest
run_from l (separates hx hy up rest) = separates hx hy (le_trans l up) rest

pub run_append : {c : Counts} {lo mid hi n : ℕ} {fs gs : List Frame} → Run c lo mid 0 fs → Run c mid hi n gs → Run c lo hi n (fs ++ gs)
run_append (none h) b = run_from h b
run_append (assigns hs hr up rest) b = assigns hs hr up (run_append rest b)
run_append (permits hr ho some mode up rest) b = permits hr ho some mode up (run_append rest b)

-- after the header
pub record Begun (k : Passed) (c : Counts) : Type 0 where
  pub going : k.ended ≡ false
  pub begun : 0 < k.lines
  pub counted : k.counts ≡ c

module _ (k : Passed) (c : Counts) (q : Begun k c) where
  ready_after : (last separations : ℕ) → Begun (passed (k.lines + 1) k.ended k.counts last separations) c
  ready_after last separations = record { going = q.going; begun = omega arith; counted = q.counted }

  -- a frame that is no header
  fine_after : (f : Frame) → misplaced k f ≡ eqb k.lines 0 → oversized f ≡ false → out_of_range k f ≡ false → k.last < key f →
      too_many k f ≡ false → miscounted k f ≡ false → Fine k f
  fine_after f place size range up room count =
      record {
        not_ended = q.going;
        in_place = place ∙ ne_eqb k.lines 0 (omega (arith, q.begun));
        not_oversized = size;
        in_range = range;
        ascends = up;
        not_too_many = room;
        well_counted = count;
      }

  fine_assign : (s r : ℕ) → s < c.subjects → r < c.roles → k.last < key (Assign s r) → Fine k (Assign s r)
  unfolding misplaced oversized too_many miscounted
  fine_assign s r hs hr up = fine_after (Assign s r) refl refl ((assign_range k s r).1 (rw q.counted (hs, hr))) up refl refl

  fine_permit : (r o m : ℕ) → r < c.roles → o < c.objects → 1 ≤ m → m ≤ 3 → k.last < key (Permit r o m) → Fine k (Permit r o m)
  unfolding misplaced oversized too_many miscounted
  fine_permit r o m hr ho some mode up = fine_after (Permit r o m) refl refl ((permit_range k r o m).1 (rw q.counted (hr, ho, some, mode))) up refl refl

  fine_separate : (x y : ℕ) → x < entities c → y < entities c → k.last < key (Separate x y) → k.separations < most_separations →
      Fine k (Separate x y)
  unfolding misplaced oversized miscounted
  fine_separate x y hx hy up room =
      fine_after (Separate x y) refl refl ((separate_range k x y).1 (rw q.counted (hx, hy))) up ((separate_room k x y).1 room) refl

  fine_closing : (n : ℕ) → n ≡ k.lines → k.last < line_key 5 0 0 → Fine k (closing n)
  unfolding closing key misplaced oversized out_of_range too_many
  fine_closing n e up = fine_after (closing n) refl refl refl (omega arith) refl ((end_count k _ _).1 (div-add-mod' n 256 ∙ e))

end_passes : (k : Passed) (n : ℕ) → check (next k (closing n)) [] ≡ Accepted
unfolding closing next check
end_passes k n = refl

pub run_passes : {c : Counts} {lo hi m : ℕ} {fs : List Frame} → Run c lo hi m fs → (k : Passed) (n : ℕ) → Begun k c →
    k.last < lo → hi ≤ line_key 5 0 0 → k.separations + m ≤ most_separations → k.lines + length fs ≡ n →
    check k (map Ok (fs ++ (closing n ∷ []))) ≡ Accepted
unfolding next
run_passes {c} (none l) k n q up top room size =
    frame_passes k (closing n) [] (fine_closing k c q n (omega arith) (omega arith)) (end_passes k n)
run_passes {c} (assigns {s} {r} hs hr l rest) k n q up top room size =
    frame_passes k _ _ (fine_assign k c q s r hs hr (lt_of_lt_of_le up l))
    (run_passes rest (next k (Assign s r)) n (ready_after k c q _ _) (le_refl _) top room (omega arith))
run_passes {c} (permits {r} {o} {m} hr ho some mode l rest) k n q up top room size =
    frame_passes k _ _ (fine_permit k c q r o m hr ho some mode (lt_of_lt_of_le up l))
    (run_passes rest (next k (Permit r o m)) n (ready_after k c q _ _) (le_refl _) top room (omega arith))
run_passes {c} (separates {x} {y} hx hy l rest) k n q up top room size =
    frame_passes k _ _ (fine_separate k c q x y hx hy (lt_of_lt_of_le up l) (omega arith))
    (run_passes rest (next k (Separate x y)) n (ready_after k c q _ _) (le_refl _) top (omega arith) (omega arith))
