-- What a line in range says, added to sound tables, leaves them sound.
use Prim.Native.Nat.{ℕ, zero, suc, ◌+◌, ◌*◌, ◌≤◌, ◌<◌}
use mathlib.Core.Path.{◌≡◌, ap₂, refl, ◌∙◌}
use mathlib.Core.Logic.{⊎_elim}
use mathlib.Core.List.{List, [], ◌∷◌, ◌++◌}
use native.Mathlib.Nat.{not-suc-le-zero, eq-or-lt_of_le}
use native.Mathlib.Decide.{ℕ_discrete}
use native.Mathlib.Omega.{arith}
use borrow.Author.Count.{below_more}
use lib.ListN.{length, get_or, set, replicate, length-set, length-append, length-replicate, get_or-append}
use lib.Seq.{get_or-set_same, get_or-set_other, get_or-append-add}
use Rattle.tables.specs.declared.Counts.{Counts}
use Rattle.answers.specs.Sizes.{most_subjects, most_objects, most_roles, most_separations}
use Rattle.tables.specs.Sheet.{Sheet, Sound, entities, from, to, pair_key, separation_key, sheet}
use Rattle.frames.specs.declared.Frame.TheVariants.{Assign, Permit, Separate}
use Rattle.text.specs.Content.{blank, add}

-- ---- tables of bytes
pub zeros : (n i : ℕ) → ◌≡◌ {A = ℕ} (get_or (replicate n 0) i 0) 0
zeros zero i = refl
zeros (suc n) zero = refl
zeros (suc n) (suc i) = zeros n i

bytes_set : (most : ℕ) (t : List ℕ) (i v : ℕ) → v ≤ most → ((k : ℕ) → k < length t → get_or t k 0 ≤ most) →
    (k : ℕ) → k < length (set t i v) → get_or (set t i v) k 0 ≤ most
bytes_set most t i v fit bytes k h = go (ℕ_discrete k i)
  where
    within : k < length t
    within = simp length-set at h

    go : Dec (k ≡ i) → get_or (set t i v) k 0 ≤ most
    go (yes e) = rw (e, get_or-set_same t i v 0 (rw e at within)) fit
    go (no e) = rw (get_or-set_other t i k v 0 e) (bytes k within)

-- ---- one separation more
module _ (separations : List ℕ) (count x y : ℕ) (size : length separations ≡ 2 * count) where
  from_before : (i : ℕ) → i < count → from (separations ++ (x ∷ y ∷ [])) i ≡ from separations i
  from_before i h = get_or-append separations (x ∷ y ∷ []) 0 (2 * i) (omega arith)

  to_before : (i : ℕ) → i < count → to (separations ++ (x ∷ y ∷ [])) i ≡ to separations i
  to_before i h = get_or-append separations (x ∷ y ∷ []) 0 (2 * i + 1) (omega arith)

  pub key_before : (i : ℕ) → i < count → separation_key (separations ++ (x ∷ y ∷ [])) i ≡ separation_key separations i
  key_before i h = ap₂ pair_key (from_before i h) (to_before i h)

  from_last : from (separations ++ (x ∷ y ∷ [])) count ≡ x
  from_last = let e : 2 * count ≡ length separations + 0 = omega arith in rw e (get_or-append-add separations (x ∷ y ∷ []) 0 0)

  to_last : to (separations ++ (x ∷ y ∷ [])) count ≡ y
  to_last = rw (← size) (get_or-append-add separations (x ∷ y ∷ []) 1 0)

  pub key_last : separation_key (separations ++ (x ∷ y ∷ [])) count ≡ pair_key x y
  key_last = ap₂ pair_key from_last to_last

  pairs_below : (n : ℕ) → ((i : ℕ) → i < count → (from separations i < n) × (to separations i < n)) → x < n → y < n →
      (i : ℕ) → i < count + 1 → (from (separations ++ (x ∷ y ∷ [])) i < n) × (to (separations ++ (x ∷ y ∷ [])) i < n)
  pairs_below n below hx hy =
      below_more (λ (i : ℕ). (from (separations ++ (x ∷ y ∷ [])) i < n) × (to (separations ++ (x ∷ y ∷ [])) i < n)) count
      (λ i h. (rw (from_before i h) (below i h).0, rw (to_before i h) (below i h).1))
      (rw from_last hx, rw to_last hy)

  pairs_ascend : ((i : ℕ) → i + 1 < count → separation_key separations i < separation_key separations (i + 1)) →
      ((i : ℕ) → i < count → separation_key separations i < pair_key x y) →
      (i : ℕ) → i + 1 < count + 1 → separation_key (separations ++ (x ∷ y ∷ [])) i < separation_key (separations ++ (x ∷ y ∷ [])) (i + 1)
  pairs_ascend ascend rises i h = ⊎_elim last earlier (eq-or-lt_of_le here)
    where
      here : i + 1 ≤ count
      here = omega arith

      last : i + 1 ≡ count → separation_key (separations ++ (x ∷ y ∷ [])) i < separation_key (separations ++ (x ∷ y ∷ [])) (i + 1)
      last e = rw (key_before i (omega arith), e, key_last) (rises i (omega arith))

      earlier : i + 1 < count → separation_key (separations ++ (x ∷ y ∷ [])) i < separation_key (separations ++ (x ∷ y ∷ [])) (i + 1)
      earlier lt = rw (key_before i (omega arith), key_before (i + 1) lt) (ascend i lt)

-- ---- the sheet
pub sound_blank : (c : Counts) → c.subjects ≤ most_subjects → c.objects ≤ most_objects → c.roles ≤ most_roles → Sound (blank c)
unfolding blank
sound_blank c s o r =
    record {
      counts_fit = record { subjects = s; objects = o; roles = r };
      assignment_size = length-replicate (c.subjects * c.roles) 0;
      assignment_bytes = λ k h. rw zeros (omega arith);
      permission_size = length-replicate (c.roles * c.objects) 0;
      permission_bytes = λ k h. rw zeros (omega arith);
      count = 0;
      separations_size = refl;
      separations_fit = omega arith;
      separations_below = λ i h. absurd (not-suc-le-zero h);
      separations_ascend = λ i h. absurd (not-suc-le-zero h);
    }

module _ (t : Sheet) (p : Sound t) where
  other_tables : (a q : List ℕ) → length a ≡ length t.assignment → ((k : ℕ) → k < length a → get_or a k 0 ≤ 1) →
      length q ≡ length t.permission → ((k : ℕ) → k < length q → get_or q k 0 ≤ 3) → Sound (sheet t.counts a q t.separations)
  other_tables a q a-size a-bytes q-size q-bytes =
      record {
        counts_fit = p.counts_fit;
        assignment_size = a-size ∙ p.assignment_size;
        assignment_bytes = a-bytes;
        permission_size = q-size ∙ p.permission_size;
        permission_bytes = q-bytes;
        count = p.count;
        separations_size = p.separations_size;
        separations_fit = p.separations_fit;
        separations_below = p.separations_below;
        separations_ascend = p.separations_ascend;
      }

  pub sound_assign : (s r : ℕ) → Sound (add t (Assign s r))
  unfolding add
  sound_assign s r =
      let i : ℕ = s * t.counts.roles + r in
      other_tables (set t.assignment i 1) t.permission
      (length-set t.assignment i 1) (bytes_set 1 t.assignment i 1 (omega arith) p.assignment_bytes) refl p.permission_bytes

  pub sound_permit : (r o m : ℕ) → m ≤ 3 → Sound (add t (Permit r o m))
  unfolding add
  sound_permit r o m mode =
      let i : ℕ = r * t.counts.objects + o in
      other_tables t.assignment (set t.permission i m)
      refl p.assignment_bytes (length-set t.permission i m) (bytes_set 3 t.permission i m mode p.permission_bytes)

  pub sound_separate : (x y : ℕ) → p.count < most_separations → x < entities t.counts → y < entities t.counts →
      ((i : ℕ) → i < p.count → separation_key t.separations i < pair_key x y) → Sound (add t (Separate x y))
  unfolding add
  sound_separate x y room hx hy rises =
      record {
        counts_fit = p.counts_fit;
        assignment_size = p.assignment_size;
        assignment_bytes = p.assignment_bytes;
        permission_size = p.permission_size;
        permission_bytes = p.permission_bytes;
        count = p.count + 1;
        separations_size = length-append t.separations (x ∷ y ∷ []) ∙ omega (arith, p.separations_size);
        separations_fit = omega arith;
        separations_below = pairs_below t.separations p.count x y p.separations_size _ p.separations_below hx hy;
        separations_ascend = pairs_ascend t.separations p.count x y p.separations_size p.separations_ascend rises;
      }
