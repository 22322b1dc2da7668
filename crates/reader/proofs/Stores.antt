-- A frame that passes, stored: its place is within the used part, and the sheet that the tables hold gains just that frame.
use Prim.Native.Nat.{ℕ, suc, ◌+◌, ◌*◌, ◌≤◌, ◌<◌}
use mathlib.Core.Path.{◌≡◌, ap, refl, sym, subst, ◌∙◌}
use mathlib.Core.List.{List, [], ◌∷◌, ◌++◌, append_assoc}
use native.Mathlib.Numerals.{add-one}
use native.Mathlib.Omega.{arith}
use lib.Arith.{digits_lt}
use lib.ListN.{length, take, drop, set, replicate, length-set, length-replicate}
use lib.Seq.{take-set-lt, drop-set-lt, take-suc-set, take_at, drop_at}
use borrow.Author.Tests.{ltb-false}
use Rattle.answers.proofs.Products.{product_within}
use Rattle.tables.specs.Sheet.{lent, sheet_of, counts, sheet}
use Rattle.frames.specs.declared.Frame.{Frame}
use Rattle.frames.specs.declared.Frame.TheVariants.{Header, Assign, Permit, Separate, End}
use Rattle.frames.specs.declared.Passed.{Passed}
use Rattle.frames.specs.Check.{start, next, misplaced}
use Rattle.frames.proofs.Checks.{fine_of}
use Rattle.frames.proofs.Ranges.{assign_range, permit_range, separate_room as room-left, header_fits as counts_fit}
use Rattle.text.specs.Content.{blank, add}
use Rattle.reader.specs.Fill.{tables}
use Rattle.reader.specs.Inner.{assignment_used, permission_used, separations_used, Within, Passes, FrameStored}

-- ---- the used parts are within the least lengths
pub assignment_room : (k : Passed) → Within k → assignment_used k ≤ 2304
assignment_room k w = product_within _ _ 48 48 2304 w.counts_fit.subjects w.counts_fit.roles (omega arith)

pub permission_room : (k : Passed) → Within k → permission_used k ≤ 3072
permission_room k w = product_within _ _ 48 64 3072 w.counts_fit.roles w.counts_fit.objects (omega arith)

-- ---- the place of a frame that passes
module _ (k : Passed) (f : Frame) (h : Passes k f) where
  pub header_fits : (s o r : ℕ) → f ≡ Header s o r → (s * r ≤ 2304) × (r * o ≤ 3072)
  header_fits s o r e =
      let x = (counts_fit s o r).0 (rw e at (fine_of k f h.fine).not_oversized) in
      (product_within s r 48 48 2304 x.0 x.2 (omega arith), product_within r o 48 64 3072 x.2 x.1 (omega arith))

  pub header_first : (s o r : ℕ) → f ≡ Header s o r → k ≡ start
  unfolding misplaced
  header_first s o r e =
      h.within.fresh (let z : k.lines ≤ 0 = ltb-false 0 k.lines (rw e at (fine_of k f h.fine).in_place) in omega arith)

  pub assign_place : (s r : ℕ) → f ≡ Assign s r → s * k.counts.roles + r < assignment_used k
  assign_place s r e = let x = (assign_range k s r).0 (rw e at (fine_of k f h.fine).in_range) in digits_lt x.0 x.1

  pub permit_place : (r o m : ℕ) → f ≡ Permit r o m → r * k.counts.objects + o < permission_used k
  permit_place r o m e = let x = (permit_range k r o m).0 (rw e at (fine_of k f h.fine).in_range) in digits_lt x.0 x.1

  pub separate_place : (x y : ℕ) → f ≡ Separate x y → k.separations < 64
  separate_place x y e = (room-left k x y).0 (rw e at (fine_of k f h.fine).not_too_many)

-- ---- what the tables hold afterwards
pair_stored : (q : List ℕ) (m x y : ℕ) → m + 1 < length q → take (suc (suc m)) (set (set q m x) (suc m) y) ≡ take m q ++ (x ∷ y ∷ [])
pair_stored q m x y h =
    take-suc-set (set q m x) (suc m) y (omega (arith, length-set q m x))
    ∙ ap (λ (t : List ℕ). t ++ (y ∷ [])) (take-suc-set q m x (omega arith))
    ∙ append_assoc (take m q) (x ∷ []) (y ∷ [])

none_yet : {k : Passed} → k ≡ start → k.separations ≡ 0
unfolding start
none_yet e = ap (λ (m : Passed). m.separations) e

blank_held : (s o r n : ℕ) (a p q : List ℕ) → take (s * r) a ≡ replicate (s * r) 0 → take (r * o) p ≡ replicate (r * o) 0 → n ≡ 0 →
    sheet_of (lent (counts s o r) a p) n q ≡ blank (counts s o r)
unfolding sheet_of blank
blank_held s o r n a p q ea ep en = rw (ea, ep, en)

module _ (k : Passed) (f : Frame) (h : Passes k f) (a p q : List ℕ) where
  pub header_stored : (s o r : ℕ) → f ≡ Header s o r →
      FrameStored k f (tables a p q) (tables (replicate (s * r) 0 ++ drop (s * r) a) (replicate (r * o) 0 ++ drop (r * o) p) q)
  unfolding next add
  header_stored s o r e =
      let none : k.separations ≡ 0 = none_yet (header_first k f h s o r e) in
      subst (λ (g : Frame). FrameStored k g (tables a p q) (tables (replicate (s * r) 0 ++ drop (s * r) a) (replicate (r * o) 0 ++ drop (r * o) p) q)) (sym e)
      (record {
        content =
            blank_held s o r k.separations _ _ q
            (take_at (replicate (s * r) 0) (drop (s * r) a) (s * r) (length-replicate (s * r) 0))
            (take_at (replicate (r * o) 0) (drop (r * o) p) (r * o) (length-replicate (r * o) 0))
            none;
        assignment_past = drop_at (replicate (s * r) 0) (drop (s * r) a) (s * r) (length-replicate (s * r) 0);
        permission_past = drop_at (replicate (r * o) 0) (drop (r * o) p) (r * o) (length-replicate (r * o) 0);
        separations_past = refl;
      })

  pub assign_stored : (s r : ℕ) → f ≡ Assign s r → FrameStored k f (tables a p q) (tables (set a (s * k.counts.roles + r) 1) p q)
  unfolding next add sheet_of
  assign_stored s r e =
      let i : ℕ = s * k.counts.roles + r in
      let l : i < assignment_used k = assign_place k f h s r e in
      subst (λ (g : Frame). FrameStored k g (tables a p q) (tables (set a i 1) p q)) (sym e)
      (record {
        content = ap (λ (t : List ℕ). sheet k.counts t (take (permission_used k) p) (take (separations_used k) q)) (take-set-lt (assignment_used k) a i 1 l);
        assignment_past = drop-set-lt (assignment_used k) a i 1 l;
        permission_past = refl;
        separations_past = refl;
      })

  pub permit_stored : (r o m : ℕ) → f ≡ Permit r o m → FrameStored k f (tables a p q) (tables a (set p (r * k.counts.objects + o) m) q)
  unfolding next add sheet_of
  permit_stored r o m e =
      let i : ℕ = r * k.counts.objects + o in
      let l : i < permission_used k = permit_place k f h r o m e in
      subst (λ (g : Frame). FrameStored k g (tables a p q) (tables a (set p i m) q)) (sym e)
      (record {
        content = ap (λ (t : List ℕ). sheet k.counts (take (assignment_used k) a) t (take (separations_used k) q)) (take-set-lt (permission_used k) p i m l);
        assignment_past = refl;
        permission_past = drop-set-lt (permission_used k) p i m l;
        separations_past = refl;
      })

  pub separate_stored : (x y : ℕ) → f ≡ Separate x y → 2 * k.separations + 1 < length q →
      FrameStored k f (tables a p q) (tables a p (set (set q (2 * k.separations) x) (2 * k.separations + 1) y))
  unfolding next add sheet_of
  separate_stored x y e room =
      let m : ℕ = separations_used k in
      let two : 2 * (k.separations + 1) ≡ suc (suc m) = omega arith in
      subst (λ (g : Frame). FrameStored k g (tables a p q) (tables a p (set (set q m x) (m + 1) y))) (sym e)
      (record {
        content = ap (λ (t : List ℕ). sheet k.counts (take (assignment_used k) a) (take (permission_used k) p) t) (rw (two, add-one) (pair_stored q m x y room));
        assignment_past = refl;
        permission_past = refl;
        separations_past =
            rw (two, add-one)
            (drop-set-lt (suc (suc m)) (set q m x) (suc m) y (omega arith) ∙ drop-set-lt (suc (suc m)) q m x (omega arith));
      })

  pub end_stored : (v l : ℕ) → f ≡ End v l → FrameStored k f (tables a p q) (tables a p q)
  unfolding next add sheet_of
  end_stored v l e =
      subst (λ (g : Frame). FrameStored k g (tables a p q) (tables a p q)) (sym e)
      (record { content = refl; assignment_past = refl; permission_past = refl; separations_past = refl })
