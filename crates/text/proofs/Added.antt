-- The frames of a sound sheet, added up from nothing, say that sheet.
use Prim.Native.Nat.{ℕ, zero, suc, ◌*◌, ◌≤◌, ◌<◌}
use mathlib.Core.Path.{◌≡◌, ap, refl, ◌∙◌}
use mathlib.Core.List.{List, [], ◌∷◌, ◌++◌, append-nil, append_assoc}
use native.Mathlib.Nat.{div-add-mod'}
use native.Mathlib.Numerals.{add-one}
use native.Mathlib.Omega.{arith}
use lib.ListN.{length, get_or, set, replicate, length-append}
use lib.Seq.{set-append_seam, append_snoc}
use Rattle.tables.specs.declared.Counts.{Counts}
use Rattle.tables.specs.Sheet.{Sheet, Sound, sheet}
use Rattle.frames.specs.declared.Frame.{Frame}
use Rattle.text.specs.Content.{blank, add, add_all, content_of, present, assign_at, permit_at, separates, body, opened, closing, frames_in}

-- ---- a table of zeros, with the bytes of t that are not 0 set one after the other
set_all : ℕ → List ℕ → List ℕ → List ℕ
set_all i [] u = u
set_all i (zero ∷ t) u = set_all (suc i) t u
set_all i (suc v ∷ t) u = set_all (suc i) t (set u i (suc v))

snoc_length : (p : List ℕ) (v : ℕ) → length (p ++ (v ∷ [])) ≡ suc (length p)
snoc_length p v = length-append p (v ∷ []) ∙ add-one (length p)

set_behind : (t p : List ℕ) → set_all (length p) t (p ++ replicate (length t) 0) ≡ p ++ t
unfolding set_all
set_behind [] p = refl
set_behind (zero ∷ t) p =
    rw (← snoc_length p 0, ← append_snoc p 0 (replicate (length t) 0)) (set_behind t (p ++ (0 ∷ []))) ∙ append_snoc p 0 t
set_behind (suc v ∷ t) p =
    rw (set-append_seam p 0 (replicate (length t) 0) (suc v), ← snoc_length p (suc v), ← append_snoc p (suc v) (replicate (length t) 0))
    (set_behind t (p ++ (suc v ∷ [])))
    ∙ append_snoc p (suc v) t

set_zeros : (t : List ℕ) (n : ℕ) → length t ≡ n → set_all 0 t (replicate n 0) ≡ t
set_zeros t n e = rw (← e) (set_behind t [])

-- ---- the frames of each table
add_append : (t : Sheet) (fs gs : List Frame) → add_all t (fs ++ gs) ≡ add_all (add_all t fs) gs
unfolding add_all
add_append t [] gs = refl
add_append t (f ∷ fs) gs = add_append (add t f) fs gs

module _ (c : Counts) where
  add_assignment : (t : List ℕ) (i : ℕ) (a q s : List ℕ) → ((k : ℕ) → k < length t → get_or t k 0 ≤ 1) →
      add_all (sheet c a q s) (present (assign_at c.roles) i t) ≡ sheet c (set_all i t a) q s
  unfolding add_all add present assign_at set_all
  add_assignment [] i a q s h = refl
  add_assignment (zero ∷ t) i a q s h = add_assignment t (suc i) a q s (λ k l. h (suc k) (omega arith))
  add_assignment (suc zero ∷ t) i a q s h =
      ap (λ (n : ℕ). add_all (sheet c (set a n 1) q s) (present (assign_at c.roles) (suc i) t)) (div-add-mod' i c.roles)
      ∙ add_assignment t (suc i) (set a i 1) q s (λ k l. h (suc k) (omega arith))
  add_assignment (suc (suc v) ∷ t) i a q s h = absurd (omega (arith, h 0 (omega arith)))

  add_permission : (t : List ℕ) (i : ℕ) (a q s : List ℕ) →
      add_all (sheet c a q s) (present (permit_at c.objects) i t) ≡ sheet c a (set_all i t q) s
  unfolding add_all add present permit_at set_all
  add_permission [] i a q s = refl
  add_permission (zero ∷ t) i a q s = add_permission t (suc i) a q s
  add_permission (suc v ∷ t) i a q s =
      ap (λ (n : ℕ). add_all (sheet c a (set q n (suc v)) s) (present (permit_at c.objects) (suc i) t)) (div-add-mod' i c.objects)
      ∙ add_permission t (suc i) a (set q i (suc v)) s

  add_separations : (t : List ℕ) (count : ℕ) (a q s : List ℕ) → length t ≡ 2 * count → add_all (sheet c a q s) (separates t) ≡ sheet c a q (s ++ t)
  unfolding add_all add separates
  add_separations [] count a q s e = rw append-nil
  add_separations (x ∷ []) count a q s e = absurd (omega arith)
  add_separations (x ∷ y ∷ t) zero a q s e = absurd (omega arith)
  add_separations (x ∷ y ∷ t) (suc count) a q s e = add_separations t count a q (s ++ (x ∷ y ∷ [])) (omega arith) ∙ rw append_assoc

module _ (t : Sheet) (p : Sound t) where
  assigned : List Frame
  assigned = present (assign_at t.counts.roles) 0 t.assignment

  permitted : List Frame
  permitted = present (permit_at t.counts.objects) 0 t.permission

  none_permitted : List ℕ
  none_permitted = replicate (t.counts.roles * t.counts.objects) 0

  after_assigned : add_all (blank t.counts) assigned ≡ sheet t.counts t.assignment none_permitted []
  unfolding assigned none_permitted blank
  after_assigned =
      add_assignment t.counts t.assignment 0 _ _ [] p.assignment_bytes
      ∙ ap (λ (a : List ℕ). sheet t.counts a none_permitted []) (set_zeros t.assignment _ p.assignment_size)

  after_permitted : add_all (sheet t.counts t.assignment none_permitted []) permitted ≡ sheet t.counts t.assignment t.permission []
  unfolding permitted none_permitted
  after_permitted =
      add_permission t.counts t.permission 0 t.assignment _ []
      ∙ ap (λ (q : List ℕ). sheet t.counts t.assignment q []) (set_zeros t.permission _ p.permission_size)

  after_separated : add_all (sheet t.counts t.assignment t.permission []) (separates t.separations) ≡ t
  after_separated = add_separations t.counts t.separations p.count t.assignment t.permission [] p.separations_size

  pub content_back : content_of (frames_in t) ≡ t
  unfolding content_of frames_in opened body add_all add closing assigned permitted
  content_back =
      add_append (blank t.counts) (body t) (closing (length (opened t)) ∷ [])
      ∙ add_append (blank t.counts) assigned (permitted ++ separates t.separations)
      ∙ rw after_assigned (add_append _ permitted (separates t.separations) ∙ rw after_permitted after_separated)
