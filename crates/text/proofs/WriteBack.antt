-- The frames of a sound sheet pass.
use Prim.Native.Nat.{ℕ, zero, suc, ◌+◌, ◌*◌, ◌≤◌, ◌<◌}
use mathlib.Core.Path.{◌≡◌, ap₂, refl}
use mathlib.Core.List.{List, [], ◌∷◌, map}
use native.Mathlib.Omega.{arith}
use lib.ListN.{length, get_or}
use Rattle.std.specs.Prelude.{Ok}
use Rattle.tables.specs.declared.Counts.{Counts}
use Rattle.tables.specs.Sheet.{Sheet, Sound, entities, from, to, pair_key, separation_key}
use Rattle.frames.specs.declared.Frame.{Frame}
use Rattle.frames.specs.declared.Frame.TheVariants.{Header}
use Rattle.frames.specs.Frame.{key}
use Rattle.frames.specs.Check.{start, next, misplaced, out_of_range, too_many, miscounted, check, Accepted}
use Rattle.frames.proofs.Checks.{Fine, frame_passes}
use Rattle.frames.proofs.Ranges.{header_fits}
use Rattle.text.specs.Content.{present, assign_at, permit_at, separates as separateFrames, body, opened, frames_in}
use Rattle.text.proofs.TableKeys.{line_key, place, row_wide, in_row, place_lt, place_low, place_high}
use Rattle.text.proofs.Runs.{Run, none, assigns, permits, separates, run_append, run_passes}

-- a table of rows of w bytes, whose frames may stand in a run at their place
module _ (c : Counts) (kind rows w most : ℕ) (frame : ℕ → ℕ → Frame) (short : rows ≤ 256) (fit : w ≤ 256)
    (put : (i v lo hi : ℕ) (fs : List Frame) → i < rows * w → 1 ≤ v → v ≤ most → lo ≤ place kind w i →
    Run c (suc (place kind w i)) hi 0 fs → Run c lo hi 0 (frame i v ∷ fs)) where
  present_run : (t : List ℕ) (i lo : ℕ) → i + length t ≤ rows * w → ((k : ℕ) → k < length t → get_or t k 0 ≤ most) →
      (0 < length t → lo ≤ place kind w i) → lo ≤ line_key (suc kind) 0 0 → Run c lo (line_key (suc kind) 0 0) 0 (present frame i t)
  unfolding present
  present_run [] i lo h bytes a b = none b
  present_run (zero ∷ t) i lo h bytes a b =
      present_run t (suc i) lo (omega arith) (λ k l. bytes (suc k) (omega arith))
      (λ l. omega (arith, a (omega arith), place_lt kind w i (suc i) (row_wide i rows w (omega arith)) fit (omega arith))) b
  present_run (suc v ∷ t) i lo h bytes a b =
      put i (suc v) lo _ _ (omega arith) (omega arith) (bytes 0 (omega arith)) (a (omega arith))
      (present_run t (suc i) (suc (place kind w i)) (omega arith) (λ k l. bytes (suc k) (omega arith))
      (λ l. place_lt kind w i (suc i) (row_wide i rows w (omega arith)) fit (omega arith))
      (place_high kind rows w i (omega arith) short fit))

-- ---- separations
module _ (x y : ℕ) (t : List ℕ) (i : ℕ) where
  from_later : from (x ∷ y ∷ t) (i + 1) ≡ from t i
  from_later = let e : 2 * (i + 1) ≡ suc (suc (2 * i)) = omega arith in rw e

  to_later : to (x ∷ y ∷ t) (i + 1) ≡ to t i
  to_later = let e : 2 * (i + 1) + 1 ≡ suc (suc (2 * i + 1)) = omega arith in rw e

  key_later : separation_key (x ∷ y ∷ t) (i + 1) ≡ separation_key t i
  key_later = ap₂ pair_key from_later to_later

separates_run : (c : Counts) → entities c ≤ 112 → (t : List ℕ) (count lo : ℕ) → length t ≡ 2 * count →
    ((i : ℕ) → i < count → (from t i < entities c) × (to t i < entities c)) →
    ((i : ℕ) → i + 1 < count → separation_key t i < separation_key t (i + 1)) →
    (0 < count → lo ≤ line_key 4 0 0 + separation_key t 0) → lo ≤ line_key 5 0 0 → Run c lo (line_key 5 0 0) count (separateFrames t)
unfolding separateFrames key
separates_run c few [] zero lo size below ascend a b = none b
separates_run c few [] (suc n) lo size below ascend a b = absurd (omega arith)
separates_run c few (x ∷ []) n lo size below ascend a b = absurd (omega arith)
separates_run c few (x ∷ y ∷ t) zero lo size below ascend a b = absurd (omega arith)
separates_run c few (x ∷ y ∷ t) (suc n) lo size below ascend a b =
    let here = below 0 (omega arith) in
    separates here.0 here.1 (a (omega arith))
    (separates_run c few t n (suc (line_key 4 x y)) (omega arith)
    (λ i h. let l = below (i + 1) (omega arith) in (rw (from_later x y t i) at l.0, rw (to_later x y t i) at l.1))
    (λ i h. rw (key_later x y t i, key_later x y t (i + 1)) at (ascend (i + 1) (omega arith)))
    (λ h. omega (arith, ascend 0 (omega arith))) (omega (arith, here)))

-- ---- all frames of a sound sheet
module _ (t : Sheet) (p : Sound t) where
  abbrev S : ℕ
  S = t.counts.subjects

  abbrev O : ℕ
  O = t.counts.objects

  abbrev R : ℕ
  R = t.counts.roles

  put_assign : (i v lo hi : ℕ) (fs : List Frame) → i < S * R → 1 ≤ v → v ≤ 1 → lo ≤ place 2 R i →
      Run t.counts (suc (place 2 R i)) hi 0 fs → Run t.counts lo hi 0 (assign_at R i v ∷ fs)
  unfolding assign_at place key
  put_assign i v lo hi fs h some most up rest = let row = in_row i S R h in assigns row.0 row.1 up rest

  assigned_run : Run t.counts (line_key 2 0 0) (line_key 3 0 0) 0 (present (assign_at R) 0 t.assignment)
  assigned_run =
      present_run t.counts 2 S R 1 (assign_at R) (omega (arith, p.counts_fit.subjects)) (omega (arith, p.counts_fit.roles)) put_assign
      t.assignment 0 (line_key 2 0 0) (omega (arith, p.assignment_size)) p.assignment_bytes (λ l. place_low 2 R 0) (omega arith)

  put_permit : (i v lo hi : ℕ) (fs : List Frame) → i < R * O → 1 ≤ v → v ≤ 3 → lo ≤ place 3 O i →
      Run t.counts (suc (place 3 O i)) hi 0 fs → Run t.counts lo hi 0 (permit_at O i v ∷ fs)
  unfolding permit_at place key
  put_permit i v lo hi fs h some most up rest = let row = in_row i R O h in permits row.0 row.1 some most up rest

  permitted_run : Run t.counts (line_key 3 0 0) (line_key 4 0 0) 0 (present (permit_at O) 0 t.permission)
  permitted_run =
      present_run t.counts 3 R O 3 (permit_at O) (omega (arith, p.counts_fit.roles)) (omega (arith, p.counts_fit.objects)) put_permit
      t.permission 0 (line_key 3 0 0) (omega (arith, p.permission_size)) p.permission_bytes (λ l. place_low 3 O 0) (omega arith)

  separated_run : Run t.counts (line_key 4 0 0) (line_key 5 0 0) p.count (separateFrames t.separations)
  separated_run =
      separates_run t.counts (omega (arith, p.counts_fit.subjects, p.counts_fit.objects)) t.separations p.count (line_key 4 0 0)
      p.separations_size p.separations_below p.separations_ascend (λ l. omega arith) (omega arith)

  pub body_run : Run t.counts (line_key 2 0 0) (line_key 5 0 0) p.count (body t)
  unfolding body
  body_run = run_append assigned_run (run_append permitted_run separated_run)

  fine_header : Fine start (Header S O R)
  unfolding start misplaced out_of_range too_many miscounted key
  fine_header =
      record {
        not_ended = refl;
        in_place = refl;
        not_oversized = (header_fits S O R).1 (p.counts_fit.subjects, p.counts_fit.objects, p.counts_fit.roles);
        in_range = refl;
        ascends = omega arith;
        not_too_many = refl;
        well_counted = refl;
      }

  pub frames_pass : check start (map Ok (frames_in t)) ≡ Accepted
  unfolding frames_in opened next start key
  frames_pass =
      frame_passes start (Header S O R) _ fine_header
      (run_passes body_run (next start (Header S O R)) (length (opened t)) (record { going = refl; begun = omega arith; counted = refl })
      (omega (arith, p.counts_fit.subjects, p.counts_fit.objects)) (omega arith) (omega (arith, p.separations_fit)) (omega arith))
