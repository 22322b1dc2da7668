-- Tables in which nothing stands at a key above the last line's: one more line in range adds its own frame at the end.
use Prim.Native.Nat.{ℕ, zero, suc, ◌+◌, ◌*◌, ◌≤◌, ◌<◌}
use mathlib.Core.Path.{◌≡◌, ap, refl}
use mathlib.Core.List.{List, [], ◌∷◌, ◌++◌, append-nil, append_assoc}
use native.Mathlib.Omega.{arith}
use borrow.Author.Count.{below_more}
use lib.Arith.{digits_div, digits_mod, digits_lt}
use lib.ListN.{length, get_or, replicate, length-append}
use Rattle.tables.specs.declared.Counts.{Counts}
use Rattle.tables.specs.Sheet.{Sheet, Sound, separation_key}
use Rattle.frames.specs.declared.Frame.{Frame}
use Rattle.frames.specs.declared.Frame.TheVariants.{Header, Assign, Permit, Separate}
use Rattle.frames.specs.Frame.{key}
use Rattle.text.specs.Content.{blank, add, assign_at, permit_at, separates, body, opened}
use Rattle.text.proofs.TableKeys.{line_key, place, place_low}
use Rattle.text.proofs.Present.{present_none, set_last, set_above}
use Rattle.text.proofs.Kept.{zeros, key_before, key_last}

-- every byte that is not 0, and every separation, stands at a key of at most `last`
pub record Reached (t : Sheet) (last : ℕ) : Type 0 where
  pub assignment : (i : ℕ) → last < place 2 t.counts.roles i → get_or t.assignment i 0 ≡ 0
  pub permission : (i : ℕ) → last < place 3 t.counts.objects i → get_or t.permission i 0 ≡ 0
  pub separations : (i : ℕ) → 2 * i < length t.separations → line_key 4 0 0 + separation_key t.separations i ≤ last

-- ---- the header
pub reached_blank : (c : Counts) (last : ℕ) → Reached (blank c) last
unfolding blank
reached_blank c last =
    record {
      assignment = λ i h. zeros (c.subjects * c.roles) i;
      permission = λ i h. zeros (c.roles * c.objects) i;
      separations = λ i h. absurd (omega arith);
    }

pub opened_blank : (c : Counts) → opened (blank c) ≡ Header c.subjects c.objects c.roles ∷ []
unfolding opened body blank separates
opened_blank c =
    simp (
      present_none (assign_at c.roles) 0 (replicate (c.subjects * c.roles) 0) (zeros (c.subjects * c.roles)),
      present_none (permit_at c.objects) 0 (replicate (c.roles * c.objects) 0) (zeros (c.roles * c.objects)),
    )

-- ---- a line more
no_bytes : (l : List ℕ) → length l ≡ 0 → l ≡ []
no_bytes [] e = refl
no_bytes (b ∷ l) e = absurd (omega arith)

separates_more : (l : List ℕ) (count x y : ℕ) → length l ≡ 2 * count → separates (l ++ (x ∷ y ∷ [])) ≡ separates l ++ (Separate x y ∷ [])
unfolding separates
separates_more [] count x y e = refl
separates_more (a ∷ []) count x y e = absurd (omega arith)
separates_more (a ∷ b ∷ l) zero x y e = absurd (omega arith)
separates_more (a ∷ b ∷ l) (suc count) x y e = ap (λ (fs : List Frame). Separate a b ∷ fs) (separates_more l count x y (omega arith))

module _ (t : Sheet) (p : Sound t) (last : ℕ) (reached : Reached t last) where
  no_separations : last < line_key 4 0 0 → t.separations ≡ []
  no_separations h = no_bytes t.separations (none p.count refl)
    where
      none : (n : ℕ) → p.count ≡ n → length t.separations ≡ 0
      none zero e = omega (arith, p.separations_size)
      none (suc n) e = absurd (omega (arith, reached.separations 0 (omega (arith, p.separations_size))))

  pub grow_assign : (s r : ℕ) → s < t.counts.subjects → r < t.counts.roles → last < key (Assign s r) →
      opened (add t (Assign s r)) ≡ opened t ++ (Assign s r ∷ [])
  unfolding opened body add assign_at separates key
  grow_assign s r hs hr up =
      simp (
        set_last 2 t.counts.roles s r t.assignment last hr (omega (arith, p.counts_fit.roles)) reached.assignment up (assign_at t.counts.roles) 1
            (omega (arith, p.assignment_size, digits_lt hs hr)) (omega arith),
        digits_div s hr,
        digits_mod s hr,
        present_none (permit_at t.counts.objects) 0 t.permission
            (λ i. reached.permission i (omega (arith, place_low 3 t.counts.objects i, p.counts_fit.subjects, p.counts_fit.roles))),
        no_separations (omega (arith, p.counts_fit.subjects, p.counts_fit.roles)),
        append-nil,
      )

  pub grow_permit : (r o m : ℕ) → r < t.counts.roles → o < t.counts.objects → 1 ≤ m → last < key (Permit r o m) →
      opened (add t (Permit r o m)) ≡ opened t ++ (Permit r o m ∷ [])
  unfolding opened body add permit_at separates key
  grow_permit r o m hr ho some up =
      simp (
        set_last 3 t.counts.objects r o t.permission last ho (omega (arith, p.counts_fit.objects)) reached.permission up (permit_at t.counts.objects) m
            (omega (arith, p.permission_size, digits_lt hr ho)) some,
        digits_div r ho,
        digits_mod r ho,
        no_separations (omega (arith, p.counts_fit.roles, p.counts_fit.objects)),
        append-nil,
        append_assoc,
      )

  pub grow_separate : (x y : ℕ) → opened (add t (Separate x y)) ≡ opened t ++ (Separate x y ∷ [])
  unfolding opened body add
  grow_separate x y = simp (separates_more t.separations p.count x y p.separations_size, append_assoc)

  pub reached_assign : (s r : ℕ) → r < t.counts.roles → last < key (Assign s r) → Reached (add t (Assign s r)) (key (Assign s r))
  unfolding add key
  reached_assign s r hr up =
      record {
        assignment = set_above 2 t.counts.roles s r t.assignment last hr (omega (arith, p.counts_fit.roles)) reached.assignment up 1;
        permission = λ i h. reached.permission i (omega arith);
        separations = λ i h. omega (arith, reached.separations i h);
      }

  pub reached_permit : (r o m : ℕ) → o < t.counts.objects → last < key (Permit r o m) → Reached (add t (Permit r o m)) (key (Permit r o m))
  unfolding add key
  reached_permit r o m ho up =
      record {
        assignment = λ i h. reached.assignment i (omega arith);
        permission = set_above 3 t.counts.objects r o t.permission last ho (omega (arith, p.counts_fit.objects)) reached.permission up m;
        separations = λ i h. omega (arith, reached.separations i h);
      }

  pub reached_separate : (x y : ℕ) → last < key (Separate x y) → Reached (add t (Separate x y)) (key (Separate x y))
  unfolding add key
  reached_separate x y up =
      record {
        assignment = λ i h. reached.assignment i (omega arith);
        permission = λ i h. reached.permission i (omega arith);
        separations = λ i h. below i (omega (arith, p.separations_size, length-append t.separations (x ∷ y ∷ [])));
      }
    where
      below : (i : ℕ) → i < p.count + 1 → line_key 4 0 0 + separation_key (t.separations ++ (x ∷ y ∷ [])) i ≤ line_key 4 x y
      below =
          below_more (λ (i : ℕ). line_key 4 0 0 + separation_key (t.separations ++ (x ∷ y ∷ [])) i ≤ line_key 4 x y) p.count
          (λ i h.
          rw (key_before t.separations p.count x y p.separations_size i h)
          (omega (arith, reached.separations i (omega (arith, p.separations_size)))))
          (rw (key_last t.separations p.count x y p.separations_size) (omega arith))
