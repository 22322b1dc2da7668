-- The chain exists exactly if x flows to y, and flow is decided: for channels between entities below n, each of which is there or not.
use Prim.Native.Nat.{ℕ, zero, suc, ◌≤◌, ◌<◌}
use mathlib.Core.Path.{◌≡◌, refl, sym, ap, subst, ◌∙◌}
use mathlib.Core.List.{List, [], ◌∷◌}
use native.Mathlib.Decide.{ℕ_discrete, dec_le}
use native.Mathlib.Omega.{arith}
use lib.ListN.{length}
use Rattle.theory.specs.Flow.{Flow}
use Rattle.theory.specs.Chain.{Chain, alone, link, NotAfter, equal, Best}
use Rattle.theory.proofs.Distinct.{distinct_fits}
use Rattle.theory.proofs.Chains.{chain_flow, flow_chain, Goes, ends, on, chain_goes, chain_long, chain_less, chain_inside, only_alone, shortest_distinct}
use Rattle.theory.specs.Laws.{Inside}

-- ---- the smallest number below n with P
pub data First (P : ℕ → Type 0) (n : ℕ) : Type 0 where
  found : (k : ℕ) → k < n → P k → ((j : ℕ) → j < k → P j → ⊥) → First P n
  nothing : ((k : ℕ) → k < n → P k → ⊥) → First P n

pub first_below : (P : ℕ → Type 0) → ((k : ℕ) → Dec (P k)) → (n : ℕ) → First P n
first_below P decide zero = nothing (λ k h p. omega arith)
first_below P decide (suc n) = go (first_below P decide n) (decide n)
  where
    go : First P n → Dec (P n) → First P (suc n)
    go (found k h p least) d = found k (omega arith) p least
    go (nothing no') (yes p) = found n (omega arith) p no'
    go (nothing no') (no p) = nothing (λ k h q. last k h q (ℕ_discrete k n))
      where
        last : (k : ℕ) → k < suc n → P k → Dec (k ≡ n) → ⊥
        last k h q (yes e) = p (subst P e q)
        last k h q (no e) = no' k (omega arith) q

module _ {ch : ℕ → ℕ → Type 0} {n : ℕ} (inside : Inside n ch) (decide : (a b : ℕ) → Dec (ch a b)) (y : ℕ) where
  -- l is the smallest of the chains from x to y with k channels
  record Least (k x : ℕ) (l : List ℕ) : Type 0 where
    chain : Chain ch x y l
    long : length l ≡ suc k
    least : (m : List ℕ) → Chain ch x y m → length m ≡ suc k → NotAfter l m

  data Level (k x : ℕ) : Type 0 where
    some : (l : List ℕ) → Least k x l → Level k x
    empty : ((m : List ℕ) → Chain ch x y m → length m ≡ suc k → ⊥) → Level k x

  -- there is one
  Reaches : ℕ → ℕ → Type 0
  Reaches k x = (l : List ℕ) × Least k x l

  reaches_decided : {k x : ℕ} → Level k x → Dec (Reaches k x)
  unfolding Reaches
  reaches_decided (some l s) = yes (l, s)
  reaches_decided (empty e) = no (λ r. e r.0 r.1.chain r.1.long)

  reaches_of : {k x : ℕ} {m : List ℕ} → Level k x → Chain ch x y m → length m ≡ suc k → Reaches k x
  unfolding Reaches
  reaches_of (some l s) c e = (l, s)
  reaches_of (empty no') c e = absurd (no' _ c e)

  -- ---- no channel
  level_none : (x : ℕ) → Dec (x ≡ y) → Level 0 x
  level_none x (yes e) =
      some (x ∷ []) (record { chain = subst (λ (z : ℕ). Chain ch x z (x ∷ [])) e alone; long = refl; least = λ m c s. only_alone c s })
  level_none x (no ne) = empty (λ m c e. ne (same (chain_goes c) e))
    where
      same : {m : List ℕ} → Goes ch x y m → length m ≡ 1 → x ≡ y
      same (ends q f) e = q
      same (on z l f c t) e = absurd (let s = ap length f in omega (arith, chain_long t))

  -- ---- one channel more: the smallest that x has a channel to and that has a chain of k channels
  module _ (k x : ℕ) (level : (z : ℕ) → Level k z) where
    Onward : ℕ → Type 0
    Onward z = ch x z × Reaches k z

    onward_decided : (z : ℕ) → Dec (Onward z)
    unfolding Onward
    onward_decided z = go (decide x z) (reaches_decided (level z))
      where
        go : Dec (ch x z) → Dec (Reaches k z) → Dec (ch x z × Reaches k z)
        go (yes c) (yes r) = yes (c, r)
        go (yes c) (no r) = no (λ p. r p.1)
        go (no c) r = no (λ p. c p.0)

    -- each longer chain goes on so
    onward_of : {z : ℕ} {m : List ℕ} → ch x z → Chain ch z y m → length m ≡ suc k → Onward z
    unfolding Onward
    onward_of {z} c t e = (c, reaches_of (level z) t e)

    tail_least : {z w : ℕ} {l m : List ℕ} → Least k z l → Chain ch w y m → length m ≡ suc k → z ≤ w → Dec (z ≡ w) → NotAfter l m
    tail_least {m = m} s t e h (yes q) = s.least m (subst (λ (a : ℕ). Chain ch a y m) (sym q) t) e
    tail_least s t e h (no ne) = chain_less s.chain t (omega arith)

    not_before : {z w : ℕ} → ((j : ℕ) → j < z → Onward j → ⊥) → Onward w → Dec (z ≤ w) → z ≤ w
    not_before least o (yes h) = h
    not_before least o (no h) = absurd (least _ (omega arith) o)

    least_more : {z : ℕ} {l m : List ℕ} → Least k z l → ((j : ℕ) → j < z → Onward j → ⊥) → Goes ch x y m → length m ≡ suc (suc k) → NotAfter (x ∷ l) m
    least_more s least (ends q f) e = absurd (let g = ap length f in omega arith)
    least_more {z} s least (on w t f c u) e =
        let long : length t ≡ suc k = let g = ap length f in omega arith in
        rw f (equal (tail_least s u long (not_before least (onward_of c u long) (dec_le z w)) (ℕ_discrete z w)))

    none_more : ((z : ℕ) → z < n → Onward z → ⊥) → {m : List ℕ} → Goes ch x y m → length m ≡ suc (suc k) → ⊥
    none_more no' (ends q f) e = let g = ap length f in omega arith
    none_more no' (on z t f c u) e =
        let long : length t ≡ suc k = let g = ap length f in omega arith in
        no' z (inside _ _ c).1 (onward_of c u long)

    level_by : First Onward n → Level (suc k) x
    unfolding Onward Reaches
    level_by (found z h p least) =
        let l = p.1.0 in
        let s = p.1.1 in
        some (x ∷ l) (record { chain = link p.0 s.chain; long = ap suc s.long; least = λ m c e. least_more s least (chain_goes c) e })
    level_by (nothing no') = empty (λ m c e. none_more no' (chain_goes c) e)

  level : (k x : ℕ) → Level k x
  level zero x = level_none x (ℕ_discrete x y)
  level (suc k) x = level_by k x (level k) (first_below (Onward k x (level k)) (onward_decided k x (level k)) n)

  -- ---- the shortest
  best_by : {x : ℕ} (j : ℕ) {m : List ℕ} → Chain ch x y m → length m ≡ suc j → First (λ k. Reaches k x) (suc j) → (l : List ℕ) × Best ch x y l
  unfolding Reaches
  best_by {x} j c e (found k h r least) =
      (r.0, record { chain = r.1.chain; shortest = λ m t. short m t (dec_le (length r.0) (length m)); smallest = λ m t s. r.1.least m t (s ∙ r.1.long) })
    where
      short : (m : List ℕ) → Chain ch x y m → Dec (length r.0 ≤ length m) → length r.0 ≤ length m
      short m t (yes p) = p
      short [] t (no p) = absurd (omega (arith, chain_long t))
      short (a ∷ m) t (no p) = absurd (least (length m) (omega (arith, r.1.long)) (reaches_of (level (length m) x) t refl))
  best_by {x} j c e (nothing no') = absurd (no' j (omega arith) (reaches_of (level j x) c e))

  best_of_chain : {x : ℕ} (m : List ℕ) → Chain ch x y m → (l : List ℕ) × Best ch x y l
  best_of_chain [] c = absurd (omega (arith, chain_long c))
  best_of_chain {x} (a ∷ m) c = best_by (length m) c refl (first_below (λ k. Reaches k x) (λ k. reaches_decided (level k x)) (suc (length m)))

  -- "the shortest is shown": where x flows to y, there is such a chain, if all channels lie below n and each is decided
  pub best_exists : {x : ℕ} → Flow ch x y → (l : List ℕ) × Best ch x y l
  best_exists f = let r = flow_chain f in best_of_chain r.0 r.1

  -- "and the shortest is shown": there is such a chain only where x flows to y
  pub best_flow : {x : ℕ} {l : List ℕ} → Best ch x y l → Flow ch x y
  best_flow b = chain_flow b.chain

  -- it has at most n entities
  pub best_fits : {x : ℕ} {l : List ℕ} → x < n → Best ch x y l → length l ≤ n
  best_fits h b = distinct_fits n _ (shortest_distinct b.chain b.shortest) (chain_inside inside h b.chain)

  -- x flows to y, or does not
  pub flow_decided : (x : ℕ) → x < n → Dec (Flow ch x y)
  unfolding Reaches
  flow_decided x h = go (first_below (λ k. Reaches k x) (λ k. reaches_decided (level k x)) n)
    where
      none_by : ((k : ℕ) → k < n → Reaches k x → ⊥) → (l : List ℕ) × Best ch x y l → ⊥
      none_by no' ([], b) = omega (arith, chain_long b.chain)
      none_by no' (a ∷ l, b) = no' (length l) (omega (arith, best_fits h b)) (reaches_of (level (length l) x) b.chain refl)

      go : First (λ k. Reaches k x) n → Dec (Flow ch x y)
      go (found k l r least) = yes (chain_flow r.1.chain)
      go (nothing no') = no (λ f. none_by no' (best_exists f))
