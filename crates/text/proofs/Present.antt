-- The frames of a table's bytes: none where all are 0, and one more where one more byte is set past all the others.
use Prim.Native.Nat.{ℕ, zero, suc, ◌+◌, ◌*◌, ◌≤◌, ◌<◌}
use mathlib.Core.Path.{◌≡◌, ap, refl, ◌∙◌}
use mathlib.Core.List.{List, [], ◌∷◌, ◌++◌}
use native.Mathlib.Nat.{zero-add, add-zero, add-suc, suc-add, not-suc-le-zero, le_of_suc-le-suc}
use native.Mathlib.Omega.{arith}
use lib.ListN.{length, get_or, set}
use lib.Seq.{get_or-set_other}
use Rattle.frames.specs.declared.Frame.{Frame}
use Rattle.text.specs.Content.{present}
use Rattle.text.proofs.TableKeys.{line_key, place, place_le, place_at}

module _ (frame : ℕ → ℕ → Frame) where
  pub present_none : (i : ℕ) (t : List ℕ) → ((j : ℕ) → get_or t j 0 ≡ 0) → present frame i t ≡ []
  unfolding present
  present_none i [] z = refl
  present_none i (zero ∷ t) z = present_none (suc i) t (λ j. z (suc j))
  present_none i (suc v ∷ t) z = let h : suc v ≡ 0 = z 0 in absurd (omega arith)

  present_set : (i : ℕ) (t : List ℕ) (j v : ℕ) → j < length t → 0 < v → ((k : ℕ) → j ≤ k → get_or t k 0 ≡ 0) →
      present frame i (set t j v) ≡ present frame i t ++ (frame (i + j) v ∷ [])
  unfolding present
  present_set i t j zero h some z = absurd (omega arith)
  present_set i [] j (suc v) h some z = absurd (not-suc-le-zero h)
  present_set i (zero ∷ t) zero (suc v) h some z = simp (present_none (suc i) t (λ k. z (suc k) (omega arith)), add-zero)
  present_set i (suc x ∷ t) zero (suc v) h some z = let e : suc x ≡ 0 = z 0 (omega arith) in absurd (omega arith)
  present_set i (zero ∷ t) (suc j) (suc v) h some z =
      present_set (suc i) t j (suc v) (le_of_suc-le-suc h) some (λ k l. z (suc k) (omega arith)) ∙ simp (suc-add, add-suc)
  present_set i (suc x ∷ t) (suc j) (suc v) h some z =
      ap (λ (l : List Frame). frame i (suc x) ∷ l)
      (present_set (suc i) t j (suc v) (le_of_suc-le-suc h) some (λ k l. z (suc k) (omega arith)) ∙ simp (suc-add, add-suc))

-- a table of rows of w bytes that is 0 at every key above `last`, and a byte set in row a at b, with a key above `last`
module _ (kind w a b : ℕ) (t : List ℕ) (last : ℕ) (small : b < w) (fit : w ≤ 256)
    (above : (i : ℕ) → last < place kind w i → get_or t i 0 ≡ 0) (rises : last < line_key kind a b) where
  pub set_last : (frame : ℕ → ℕ → Frame) (v : ℕ) → a * w + b < length t → 0 < v →
      present frame 0 (set t (a * w + b) v) ≡ present frame 0 t ++ (frame (a * w + b) v ∷ [])
  set_last frame v h some = present_set frame 0 t (a * w + b) v h some free ∙ simp zero-add
    where
      free : (j : ℕ) → a * w + b ≤ j → get_or t j 0 ≡ 0
      free j l = above j (omega (arith, place_le kind w (a * w + b) j (omega arith) fit l, place_at kind w a b small))

  pub set_above : (v i : ℕ) → line_key kind a b < place kind w i → get_or (set t (a * w + b) v) i 0 ≡ 0
  set_above v i l = get_or-set_other t (a * w + b) i v 0 other ∙ above i (omega arith)
    where
      other : i ≡ a * w + b → ⊥
      other e = omega (arith, place_at kind w a b small, ap (place kind w) e)
