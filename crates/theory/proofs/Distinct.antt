-- Lists of numbers in which none stands twice: below n there are at most n of them.
use Prim.Native.Nat.{ℕ, zero, suc, ◌≤◌, ◌<◌}
use mathlib.Core.Path.{◌≡◌}
use mathlib.Core.List.{List, [], ◌∷◌}
use native.Mathlib.Decide.{ℕ_discrete}
use native.Mathlib.Omega.{arith}
use lib.ListN.{length}
use Rattle.theory.specs.Chain.{Absent, nowhere, further, Distinct, empty, more}

-- each number is below n
pub data AllBelow (n : ℕ) : List ℕ → Type 0 where
  none : AllBelow n []
  next : {a : ℕ} {l : List ℕ} → a < n → AllBelow n l → AllBelow n (a ∷ l)

keep : {a v : ℕ} → Dec (a ≡ v) → List ℕ → List ℕ
keep (yes e) l = l
keep {a} (no e) l = a ∷ l

-- the list without v
without : ℕ → List ℕ → List ℕ
without v [] = []
without v (a ∷ l) = keep (ℕ_discrete a v) (without v l)

module _ (v : ℕ) where
  absent_without : {a : ℕ} (l : List ℕ) → Absent a l → Absent a (without v l)
  unfolding without keep
  absent_without [] nowhere = nowhere
  absent_without {a} (b ∷ l) (further ne r) = go (ℕ_discrete b v) (absent_without l r)
    where
      go : (d : Dec (b ≡ v)) → Absent a (without v l) → Absent a (keep d (without v l))
      go (yes e) i = i
      go (no e) i = further ne i

  distinct_without : (l : List ℕ) → Distinct l → Distinct (without v l)
  unfolding without keep
  distinct_without [] empty = empty
  distinct_without (a ∷ l) (more r d) = go (ℕ_discrete a v) (distinct_without l d)
    where
      go : (e : Dec (a ≡ v)) → Distinct (without v l) → Distinct (keep e (without v l))
      go (yes e) i = i
      go (no e) i = more (absent_without l r) i

  absent_length : (l : List ℕ) → Absent v l → length l ≤ length (without v l)
  unfolding without keep
  absent_length [] nowhere = omega arith
  absent_length (a ∷ l) (further ne r) = go (ℕ_discrete a v) (absent_length l r)
    where
      go : (e : Dec (a ≡ v)) → length l ≤ length (without v l) → suc (length l) ≤ length (keep e (without v l))
      go (yes e) i = absurd (ne e)
      go (no e) i = omega arith

  distinct_length : (l : List ℕ) → Distinct l → length l ≤ suc (length (without v l))
  unfolding without keep
  distinct_length [] empty = omega arith
  distinct_length (a ∷ l) (more r d) = go (ℕ_discrete a v) (distinct_length l d) r
    where
      go : (e : Dec (a ≡ v)) → length l ≤ suc (length (without v l)) → Absent a l → suc (length l) ≤ suc (length (keep e (without v l)))
      go (yes e) i r = omega (arith, absent_length l (rw e at r))
      go (no e) i r = omega arith

  below_without : (l : List ℕ) → AllBelow (suc v) l → AllBelow v (without v l)
  unfolding without keep
  below_without [] none = none
  below_without (a ∷ l) (next h b) = go (ℕ_discrete a v) (below_without l b)
    where
      go : (e : Dec (a ≡ v)) → AllBelow v (without v l) → AllBelow v (keep e (without v l))
      go (yes e) i = i
      go (no e) i = let less : a < v = omega arith in next less i

pub distinct_fits : (n : ℕ) (l : List ℕ) → Distinct l → AllBelow n l → length l ≤ n
distinct_fits zero [] d b = omega arith
distinct_fits zero (a ∷ l) d (next h b) = absurd (omega arith)
distinct_fits (suc n) l d b =
    omega (arith, distinct_length n l d, distinct_fits n (without n l) (distinct_without n l d) (below_without n l b))
