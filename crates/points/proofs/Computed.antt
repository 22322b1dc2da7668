-- Flow and the shown chain, computed from a test of the channels: an example of them holds by `refl`.
use Prim.Native.Nat.{ℕ, zero, suc, pred, ◌≤◌, ◌<◌}
use mathlib.Core.Path.{◌≡◌, refl, sym, ap, subst, ◌∙◌}
use mathlib.Core.Logic.Dec
use mathlib.Core.Logic.{◌⊎◌, inl, inr, ⊎_elim}
use mathlib.Core.Bool.{Bool, true, false, cond, true≢false, Bool-discrete}
use mathlib.Core.List.{List, [], ◌∷◌}
use native.Mathlib.Decide.{ℕ_discrete, dec_le, dec_lt, map_dec}
use native.Mathlib.Omega.{arith}
use lib.Dec.{eqb}
use lib.ListN.{length}
use borrow.Author.Tests.{eqb-true, eqb-false}
use Rattle.theory.specs.Flow.{Flow}
use Rattle.theory.specs.Chain.{Chain, alone, link, NotAfter, equal, Best}
use Rattle.theory.proofs.Chains.{chain_flow, chain_long, chain_less, only_alone}
use Rattle.theory.proofs.Exists.{best_exists, best_fits}
use Rattle.theory.specs.Laws.{Inside}

-- the channels that a test gives, between numbers below n
pub record Tested (c : ℕ → ℕ → Bool) (n a b : ℕ) : Type 0 where
  pub source : a < n
  pub target : b < n
  pub holds : c a b ≡ true

-- ---- the computation, in which [] stands for no chain

-- x in front of a chain
lead : ℕ → List ℕ → List ℕ
lead x [] = []
lead x (a ∷ l) = x ∷ a ∷ l

-- the first, or the second if the first is none
or_else : List ℕ → List ℕ → List ℕ
or_else [] m = m
or_else (a ∷ l) m = a ∷ l

-- the first of f 0, .., f (n - 1) that is not empty
first_of : ℕ → (ℕ → List ℕ) → List ℕ
unfolding or_else
first_of zero f = []
first_of (suc n) f = or_else (first_of n f) (f n)

-- the smallest of the chains from x to y with k channels
smallest_of : (ℕ → ℕ → Bool) → ℕ → ℕ → ℕ → ℕ → List ℕ
unfolding lead first_of
smallest_of c n y x zero = cond (eqb x y) (x ∷ []) []
smallest_of c n y x (suc k) = first_of n (λ z. cond (c x z) (lead x (smallest_of c n y z k)) [])

-- the shown chain from x to y
unfoldable pub chainb : (ℕ → ℕ → Bool) → ℕ → ℕ → ℕ → List ℕ
unfolding first_of smallest_of
chainb c n x y = first_of n (smallest_of c n y x)

-- ---- the least list of a set: a shortest one, and the smallest of these
abbrev Before : List ℕ → List ℕ → Type 0
Before l m = (length l ≤ length m) × (length m ≡ length l → NotAfter l m)

before_shorter : {l m : List ℕ} → length l < length m → Before l m
before_shorter h = (omega arith, λ e. absurd (omega arith))

before_lead : {l m : List ℕ} (x : ℕ) → Before l m → Before (x ∷ l) (x ∷ m)
before_lead x (h, g) = (omega arith, λ e. equal (g (omega arith)))

data Least (S : List ℕ → Type 0) : List ℕ → Type 0 where
  none : ((m : List ℕ) → S m → ⊥) → Least S []
  some : {a : ℕ} {l : List ℕ} → S (a ∷ l) → ((m : List ℕ) → S m → Before (a ∷ l) m) → Least S (a ∷ l)

least_same : {S U : List ℕ → Type 0} {l : List ℕ} → ((m : List ℕ) → S m → U m) → ((m : List ℕ) → U m → S m) → Least S l → Least U l
least_same to back (none h) = none (λ m u. h m (back m u))
least_same to back (some s h) = some (to _ s) (λ m u. h m (back m u))

-- in one of the first n sets
abbrev Any : (ℕ → List ℕ → Type 0) → ℕ → List ℕ → Type 0
Any S n m = (k : ℕ) × (k < n) × S k m

-- if each set is before the later ones, the first of their least lists is the least of them all
module _ {S : ℕ → List ℕ → Type 0} (in_order : (j k : ℕ) (l m : List ℕ) → j < k → S j l → S k m → Before l m) where
  earlier_or_last : {n : ℕ} (m : List ℕ) → Any S (suc n) m → Any S n m ⊎ S n m
  earlier_or_last {n} m (k, h, s) = by_cases (ℕ_discrete k n)
    where
      by_cases : Dec (k ≡ n) → Any S n m ⊎ S n m
      by_cases (yes e) = inr (subst (λ (i : ℕ). S i m) e s)
      by_cases (no ne) = inl (k, omega arith, s)

  or_else_least : {n : ℕ} {l r : List ℕ} → Least (Any S n) l → Least (S n) r → Least (Any S (suc n)) (or_else l r)
  unfolding or_else
  or_else_least (none h) (none g) = none (λ m p. ⊎_elim (h m) (g m) (earlier_or_last m p))
  or_else_least {n} (none h) (some s g) = some (n, omega arith, s) (λ m p. ⊎_elim (λ q. absurd (h m q)) (g m) (earlier_or_last m p))
  or_else_least {n} (some (k, b, s) h) r = some (k, omega arith, s) (λ m p. ⊎_elim (h m) (in_order k n _ m b s) (earlier_or_last m p))

  first_least : {f : ℕ → List ℕ} (n : ℕ) → ((k : ℕ) → k < n → Least (S k) (f k)) → Least (Any S n) (first_of n f)
  unfolding first_of
  first_least zero each = none (λ m p. omega arith)
  first_least (suc n) each = or_else_least (first_least n (λ k h. each k (omega arith))) (each n (omega arith))

-- ---- the computed chain is the least
module _ (c : ℕ → ℕ → Bool) (n y : ℕ) where
  -- the chains from x to y with k channels
  abbrev Chains : ℕ → ℕ → List ℕ → Type 0
  Chains x k m = Chain (Tested c n) x y m × (length m ≡ suc k)

  -- x, and then such a chain from z
  abbrev Via : ℕ → ℕ → ℕ → List ℕ → Type 0
  Via x k z m = (t : List ℕ) × (m ≡ x ∷ t) × Tested c n x z × Chains z k t

  alone_least : {x : ℕ} (b : Bool) → eqb x y ≡ b → Least (Chains x 0) (cond b (x ∷ []) [])
  alone_least {x} true e =
      some (subst (λ (z : ℕ). Chain (Tested c n) x z (x ∷ [])) (eqb-true x y e) alone, refl) (λ m p. (chain_long p.0, only_alone p.0))
  alone_least {x} false e = none (λ m p. eqb-false x y e (ends p.0 p.1))
    where
      ends : {z : ℕ} {m : List ℕ} → Chain (Tested c n) x z m → length m ≡ 1 → x ≡ z
      ends alone s = refl
      ends (link h t) s = absurd (omega (arith, chain_long t))

  via_least : {x z k : ℕ} {l : List ℕ} → x < n → z < n → (b : Bool) → c x z ≡ b → Least (Chains z k) l → Least (Via x k z) (cond b (lead x l) [])
  unfolding lead
  via_least h g false e r = none (λ m p. true≢false (sym p.2.holds ∙ e))
  via_least h g true e (none no') = none (λ m p. no' p.0 p.3)
  via_least h g true e (some s least) =
      some (_, refl, record { source = h; target = g; holds = e }, s)
      (λ m p. rw p.1 (before_lead _ (least p.0 p.3)))

  via_in_order : (x k z w : ℕ) (l m : List ℕ) → z < w → Via x k z l → Via x k w m → Before l m
  via_in_order x k z w l m h (t, e, b, s) (u, f, d, r) = rw (e, f) (before_lead x (omega arith, λ q. chain_less s.0 r.0 h))

  via_chains : {x k : ℕ} (m : List ℕ) → Any (Via x k) n m → Chains x (suc k) m
  via_chains m (z, h, (t, e, b, s)) = rw e (link b s.0, ap suc s.1)

  chains_via : {x k : ℕ} (m : List ℕ) → Chains x (suc k) m → Any (Via x k) n m
  chains_via m (alone, e) = absurd (omega arith)
  chains_via m (link {z = z} b t, e) = (z, b.target, (_, refl, b, (t, omega arith)))

  smallest_least : (x k : ℕ) → x < n → Least (Chains x k) (smallest_of c n y x k)
  unfolding smallest_of
  smallest_least x zero h = alone_least (eqb x y) refl
  smallest_least x (suc k) h =
      least_same via_chains chains_via (first_least (via_in_order x k) n (λ z g. via_least h g (c x z) refl (smallest_least z k g)))

  shown_least : {x : ℕ} → x < n → Least (Any (Chains x) n) (chainb c n x y)
  unfolding chainb
  shown_least {x} h = first_least (λ j k l m g s t. before_shorter (omega arith)) n (λ k g. smallest_least x k h)

  -- a chain of at most n entities is one of them
  within : {x : ℕ} {m : List ℕ} → Chain (Tested c n) x y m → length m ≤ n → Any (Chains x) n m
  within {m = m} t h = let g = chain_long t in (pred (length m), omega arith, (t, omega arith))

  best_of : {x a : ℕ} {l : List ℕ} → Least (Any (Chains x) n) (a ∷ l) → Best (Tested c n) x y (a ∷ l)
  best_of {x} {a} {l} (some (k, h, s) least) = record { chain = s.0; shortest = λ m t. (before t).0; smallest = λ m t. (before t).1 }
    where
      by_cases : {m : List ℕ} → Chain (Tested c n) x y m → Dec (length m ≤ n) → Before (a ∷ l) m
      by_cases t (yes g) = least _ (within t g)
      by_cases t (no g) = before_shorter (omega arith)

      before : {m : List ℕ} → Chain (Tested c n) x y m → Before (a ∷ l) m
      before {m} t = by_cases t (dec_le (length m) n)

  inside : Inside n (Tested c n)
  inside a b t = (t.source, t.target)

  decided : (a b : ℕ) → Dec (Tested c n a b)
  decided a b =
      map_dec (λ p. record { source = p.0; target = p.1.0; holds = p.1.1 }) (λ t. (t.source, (t.target, t.holds)))
      (Dec.and (dec_lt a n) (Dec.and (dec_lt b n) (Bool-discrete (c a b) true)))

  no_flow : {x : ℕ} → x < n → Least (Any (Chains x) n) [] → Flow (Tested c n) x y → ⊥
  no_flow h (none no') f = let b = best_exists inside decided y f in no' b.0 (within b.1.chain (best_fits inside decided y h b.1))

-- ---- what an example's computation says
module _ {c : ℕ → ℕ → Bool} {n x y : ℕ} (below : x < n) where
  pub chain_is : {a : ℕ} {l : List ℕ} → chainb c n x y ≡ a ∷ l → Best (Tested c n) x y (a ∷ l)
  chain_is e = best_of c n y (rw e at (shown_least c n y below))

  pub flows : {a : ℕ} {l : List ℕ} → chainb c n x y ≡ a ∷ l → Flow (Tested c n) x y
  flows e = chain_flow (chain_is e).chain

  pub flows_not : chainb c n x y ≡ [] → Flow (Tested c n) x y → ⊥
  flows_not e = no_flow c n y below (rw e at (shown_least c n y below))
