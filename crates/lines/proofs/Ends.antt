-- The first line of a text, by where it ends.
use Prim.Native.Nat.{ℕ, zero, suc, ◌<◌}
use mathlib.Core.Path.{◌≡◌, ap, sym}
use mathlib.Core.Bool.{Bool}
use mathlib.Core.List.{List, [], ◌∷◌}
use native.Mathlib.Nat.{not-suc-le-zero}
use native.Mathlib.Decide.{ℕ_discrete}
use native.Mathlib.Omega.{arith}
use lib.Dec.{ltb, leb-suc-suc}
use lib.ListN.{length, take, drop}
use lib.Seq.{take-nil}
use borrow.Author.Tests.{lt-ltb, le-ltb, eq-eqb, ne_eqb}
use Rattle.digits.specs.Line.{line, feed, joined, lines, line_end}
use Rattle.lines.proofs.Starts.{first_fed, first_more}

-- a byte that is passed is no line feed, and the line goes on past it
no_feed : (b : ℕ) (t : List ℕ) (e : ℕ) → suc e ≡ line_end (b ∷ t) 1 → b ≡ feed → ⊥
no_feed b t e h q = omega (arith, (first_fed b t q).0)

goes_on : (b : ℕ) (t : List ℕ) (e : ℕ) → suc e ≡ line_end (b ∷ t) 1 → e ≡ line_end t 1
goes_on b t e h = omega (arith, first_more b t (no_feed b t e h))

ends_here : (b : ℕ) (t : List ℕ) → 0 ≡ line_end (b ∷ t) 1 → b ≡ feed
ends_here b t h = elim (ℕ_discrete b feed) [ yes q ↦ q | no q ↦ absurd (omega (arith, first_more b t q)) ]

-- "each ended by one line feed": the first line's bytes, whether a line feed ends it, and the lines after that
pub first_ends : (t : List ℕ) (e : ℕ) → 0 < length t → e ≡ line_end t 1 → lines t ≡ line (take e t) (ltb e (length t)) ∷ lines (drop (suc e) t)
unfolding lines joined
first_ends [] e l h = absurd (not-suc-le-zero l)
first_ends (b ∷ t) zero l h = rw (eq-eqb b feed (ends_here b t h), lt-ltb 0 (length (b ∷ t)) l)
first_ends (b ∷ []) (suc e) l h = rw (ne_eqb b feed (no_feed b [] e h), take-nil e, le-ltb (suc e) 1 (omega arith))
first_ends (b ∷ d ∷ t) (suc e) l h =
    rw (ne_eqb b feed (no_feed b (d ∷ t) e h), first_ends (d ∷ t) e (omega arith) (goes_on b (d ∷ t) e h))
    (ap (λ (x : Bool). line (b ∷ take e (d ∷ t)) x ∷ lines (drop e t)) (sym (leb-suc-suc (suc e) (suc (length t)))))
