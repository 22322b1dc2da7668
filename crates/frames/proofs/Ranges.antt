-- What a test that fails says of the frame's numbers: one law for each number of refusal and kind of frame that has a test.
use Prim.Native.Nat.{ℕ, ◌+◌, ◌*◌, ◌≤◌, ◌<◌}
use mathlib.Core.Path.{◌≡◌, refl}
use mathlib.Core.Logic.{◌↔◌}
use mathlib.Core.Bool.{Bool, true, false, ◌||◌, true≢false}
use lib.Dec.{leb, ltb}
use borrow.Author.Tests.{leb-false, lt-leb, ltb-false, le-ltb, eqb-true, eq-eqb, not-false}
use Rattle.tables.specs.Sheet.{entities}
use Rattle.answers.specs.Sizes.{most_subjects, most_objects, most_roles, most_separations}
use Rattle.frames.specs.declared.Frame.TheVariants.{Header, Assign, Permit, Separate, End}
use Rattle.frames.specs.declared.Passed.{Passed}
use Rattle.frames.specs.Check.{oversized, out_of_range, too_many, miscounted}

neither : {P Q : Type 0} (a b : Bool) → ((a ≡ false) ↔ P) → ((b ≡ false) ↔ Q) → (a || b ≡ false) ↔ (P × Q)
neither true b p q = (λ e. absurd (true≢false e), λ x. absurd (true≢false (p.1 x.0)))
neither false b p q = (λ e. (p.0 refl, q.0 e), λ x. q.1 x.1)

below : (n i : ℕ) → (leb n i ≡ false) ↔ (i < n)
below n i = (leb-false n i, lt-leb n i)

within : (most n : ℕ) → (ltb most n ≡ false) ↔ (n ≤ most)
within most n = (ltb-false most n, le-ltb most n)

pub header_fits : (s o r : ℕ) → (oversized (Header s o r) ≡ false) ↔ ((s ≤ most_subjects) × (o ≤ most_objects) × (r ≤ most_roles))
unfolding oversized
header_fits s o r =
    let x = neither _ _ (neither _ _ (within most_subjects s) (within most_objects o)) (within most_roles r) in
    (λ e. ((x.0 e).0.0, (x.0 e).0.1, (x.0 e).1), λ p. x.1 ((p.0, p.1), p.2))

module _ (k : Passed) where
  pub assign_range : (s r : ℕ) → (out_of_range k (Assign s r) ≡ false) ↔ ((s < k.counts.subjects) × (r < k.counts.roles))
  unfolding out_of_range
  assign_range s r = neither _ _ (below _ s) (below _ r)

  pub permit_range : (r o m : ℕ) → (out_of_range k (Permit r o m) ≡ false) ↔ ((r < k.counts.roles) × (o < k.counts.objects) × (1 ≤ m) × (m ≤ 3))
  unfolding out_of_range
  permit_range r o m =
      let x = neither _ _ (neither _ _ (neither _ _ (below _ r) (below _ o)) (within m 1)) (within 3 m) in
      (λ e. let y = x.0 e in (y.0.0.0, y.0.0.1, y.0.1, y.1), λ p. x.1 (((p.0, p.1), p.2), p.3))

  pub separate_range : (x y : ℕ) → (out_of_range k (Separate x y) ≡ false) ↔ ((x < entities k.counts) × (y < entities k.counts))
  unfolding out_of_range
  separate_range x y = neither _ _ (below _ x) (below _ y)

  pub separate_room : (x y : ℕ) → (too_many k (Separate x y) ≡ false) ↔ (k.separations < most_separations)
  unfolding too_many
  separate_room x y = below _ _

  -- "05 h l | end; h x 256 + l lines came before it": an end line passes "9 for the end count" exactly if so many came before it
  pub end_count : (h l : ℕ) → (miscounted k (End h l) ≡ false) ↔ (h * 256 + l ≡ k.lines)
  unfolding miscounted
  end_count h l = (λ e. eqb-true _ _ (not-false _ e), λ e. rw (eq-eqb _ _ e))
