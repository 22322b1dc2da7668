-- Laws of `Settled`, one after another, and of `Round`, which settles what has a channel to one at r after another.
use Prim.Native.Nat.{ℕ, ◌+◌, ◌<◌}
use mathlib.Core.Path.{◌≡◌, sym, ◌∙◌}
use mathlib.Core.Logic.{◌⊎◌, inl, inr}
use mathlib.Core.List.{List}
use native.Mathlib.Decide.{ℕ_discrete}
use native.Mathlib.Omega.{arith}
use Rattle.std.specs.Prelude.{Option, Some, None}
use Rattle.chains.specs.Distance.{known, Moved, kept, moved, Settled, Near, Round, NoneAt}

module _ {P : ℕ → Type 0} {d : ℕ} where
  -- ---- with P first, then with Q
  module _ {Q : ℕ → Type 0} {n : ℕ} {dist dist' dist'' : List (Option ℕ)} (s : Settled P d n dist dist') (t : Settled Q d n dist' dist'') where
    both : {x : ℕ} → Moved P d dist dist' x → Moved Q d dist' dist'' x → Moved (λ z. P z ⊎ Q z) d dist dist'' x
    both (kept e) (kept f) = kept (f ∙ e)
    both (kept e) (moved o f q) = moved (sym e ∙ o) f (inr q)
    both (moved o e p) (kept f) = moved o (f ∙ e) (inl p)
    both (moved o e p) (moved o' f q) = cc

    unset_before : {x : ℕ} → known dist'' x ≡ None → Moved Q d dist' dist'' x → known dist' x ≡ None
    unset_before e (kept f) = sym f ∙ e
    unset_before e (moved o f q) = o

    none_left : (x : ℕ) → x < n → known dist'' x ≡ None → P x ⊎ Q x → ⊥
    none_left x l e (inl p) = s.left x l (unset_before e (t.each x)) p
    none_left x l e (inr q) = t.left x l e q

    pub settled_then : Settled (λ z. P z ⊎ Q z) d n dist dist''
    settled_then = record { each = λ x. both (s.each x) (t.each x); left = none_left }

  -- ---- with what holds of the same entities
  module _ {Q : ℕ → Type 0} (to : (x : ℕ) → P x → Q x) (back : (x : ℕ) → Q x → P x) where
    move_agrees : {dist dist' : List (Option ℕ)} {x : ℕ} → Moved P d dist dist' x → Moved Q d dist dist' x
    move_agrees (kept e) = kept e
    move_agrees {x = x} (moved o e p) = moved o e (to x p)

    pub settled_agrees : {n : ℕ} {dist dist' : List (Option ℕ)} → Settled P d n dist dist' → Settled Q d n dist dist'
    settled_agrees s = record { each = λ x. move_agrees (s.each x); left = λ x l e q. s.left x l e (back x q) }

-- ---- a round at r
module _ {ch : ℕ → ℕ → Type 0} {n r w : ℕ} {dist dist' : List (Option ℕ)} (s : Round ch n r w dist dist') where
  apart : Some (r + 1) ≡ Some r → ⊥
  apart e = let same : r + 1 ≡ r = cc in omega arith

  was : Moved (Near ch dist r w) (r + 1) dist dist' w → known dist' w ≡ Some r → known dist w ≡ Some r
  was (kept e) h = sym e ∙ h
  was (moved o e p) h = absurd (apart (sym e ∙ h))

  stays : Moved (Near ch dist r w) (r + 1) dist dist' w → known dist w ≡ Some r → known dist' w ≡ Some r
  stays (kept e) h = e ∙ h
  stays (moved o e p) h = cc

  nearer : {x : ℕ} → Near ch dist r w x → Near ch dist r (w + 1) x
  nearer p = record { to = p.to; below = omega (arith, p.below); channel = p.channel; at = p.at }

  -- w is not at r
  pub round_pass : (known dist' w ≡ Some r → ⊥) → Round ch n r (w + 1) dist dist'
  round_pass ne = settled_agrees (λ x p. nearer p) (λ x p. earlier p (ℕ_discrete p.to w)) s
    where
      earlier : {x : ℕ} (p : Near ch dist r (w + 1) x) → Dec (p.to ≡ w) → Near ch dist r w x
      earlier p (yes e) = absurd (ne (stays (s.each w) (rw e at p.at)))
      earlier p (no ne') = record { to = p.to; below = omega (arith, p.below); channel = p.channel; at = p.at }

  -- w is at r, and what has a channel to w is settled
  pub round_more : {dist'' : List (Option ℕ)} → known dist' w ≡ Some r →
      Settled (λ x. ch x w) (r + 1) n dist' dist'' → Round ch n r (w + 1) dist dist''
  round_more at t = settled_agrees joined (λ x p. parted p (ℕ_discrete p.to w)) (settled_then s t)
    where
      joined : (x : ℕ) → Near ch dist r w x ⊎ ch x w → Near ch dist r (w + 1) x
      joined x (inl p) = nearer p
      joined x (inr c) = record { to = w; below = omega arith; channel = c; at = was (s.each w) at }

      parted : {x : ℕ} (p : Near ch dist r (w + 1) x) → Dec (p.to ≡ w) → Near ch dist r w x ⊎ ch x w
      parted {x} p (yes e) = inr (rw e at p.channel)
      parted p (no ne) = inl (record { to = p.to; below = omega (arith, p.below); channel = p.channel; at = p.at })

-- ---- who is at r
module _ {r w : ℕ} (dist : List (Option ℕ)) (none : NoneAt r w dist) (other : known dist w ≡ Some r → ⊥) where
  pub none_more : NoneAt r (w + 1) dist
  none_more x l e = go (ℕ_discrete x w)
    where
      go : Dec (x ≡ w) → ⊥
      go (yes same) = other (rw same at e)
      go (no ne) = none x (omega arith) e
