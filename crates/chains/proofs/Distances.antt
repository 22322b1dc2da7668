-- Distances, and the chain by them: it goes on to the smallest entity that is one nearer.
use Prim.Native.Nat.{ℕ, suc, ◌≤◌, ◌<◌}
use mathlib.Core.Path.{◌≡◌, refl, sym, subst}
use mathlib.Core.List.{List, [], ◌∷◌}
use native.Mathlib.Decide.{ℕ_discrete}
use native.Mathlib.Omega.{arith}
use lib.ListN.{length}
use Rattle.theory.specs.Chain.{Chain, alone, link, NotAfter, equal, Best}
use Rattle.theory.proofs.Distinct.{distinct_fits}
use Rattle.theory.proofs.Chains.{chain_long, chain_less, chain_inside, shortest_distinct}
use Rattle.chains.specs.Distance.{Distance}
use Rattle.theory.specs.Laws.{Inside}

module _ {ch : ℕ → ℕ → Type 0} where
  -- only y is at 0
  pub one_long : {x y : ℕ} {l : List ℕ} → Chain ch x y l → length l ≡ 1 → x ≡ y
  one_long alone e = refl
  one_long (link c t) e = absurd (omega (arith, chain_long t))

  pub distance_none : {y : ℕ} → Distance ch y 0 y
  distance_none {y} = record { way = y ∷ []; chain = alone; long = refl; least = λ m c. chain_long c }

  -- an entity has one distance
  pub one_distance : {x y j k : ℕ} → Distance ch y j x → Distance ch y k x → j ≡ k
  one_distance p q = omega (arith, p.long, q.long, p.least q.way q.chain, q.least p.way p.chain)

  -- a shortest chain repeats no entity
  pub distance_below : {n x y k : ℕ} → Inside n ch → x < n → Distance ch y k x → k < n
  distance_below {n} {x} {y} inside h d =
      let short : (m : List ℕ) → Chain ch x y m → length d.way ≤ length m = λ m c. omega (arith, d.long, d.least m c) in
      omega (arith, d.long, distinct_fits n d.way (shortest_distinct d.chain short) (chain_inside inside h d.chain))

  -- what goes on from v with k channels is at k, where v is at k + 1
  pub one_nearer : {y k v z : ℕ} {l : List ℕ} → Distance ch y (suc k) v → ch v z → Chain ch z y l → length l ≡ suc k → Distance ch y k z
  one_nearer {v = v} {l = l} d c t e =
      record { way = l; chain = t; long = e; least = λ m u. omega (arith, d.least (v ∷ m) (link c u)) }

  -- ---- one channel in front
  module _ {y v w k : ℕ} {s : List ℕ} (here : Distance ch y (suc k) v) (near : Distance ch y k w) (b : Best ch w y s) where
    best_long : length s ≡ suc k
    best_long = omega (arith, near.long, b.shortest near.way near.chain, near.least s b.chain)

    tail_smallest : {z : ℕ} {l : List ℕ} → Chain ch z y l → length l ≡ length s → w ≤ z → Dec (w ≡ z) → NotAfter s l
    tail_smallest {l = l} t e h (yes q) = b.smallest l (subst (λ (a : ℕ). Chain ch a y l) (sym q) t) e
    tail_smallest t e h (no ne) = chain_less b.chain t (omega arith)

  best_smallest : {y v w k : ℕ} {s m : List ℕ} → Distance ch y (suc k) v → Distance ch y k w → Best ch w y s →
      ((z : ℕ) → ch v z → Distance ch y k z → w ≤ z) → Chain ch v y m → length m ≡ suc (length s) → NotAfter (v ∷ s) m
  best_smallest here near b first alone e = absurd (omega (arith, chain_long b.chain))
  best_smallest {w = w} here near b first (link {z = z} c t) e =
      let long = best_long here near b in
      equal (tail_smallest here near b t (omega arith) (first z c (one_nearer here c t (omega arith))) (ℕ_discrete w z))

  -- w is the smallest that v has a channel to and that is one nearer than v
  pub best_link : {y v w k : ℕ} {s : List ℕ} → ch v w → Distance ch y (suc k) v → Distance ch y k w →
      ((z : ℕ) → ch v z → Distance ch y k z → w ≤ z) → Best ch w y s → Best ch v y (v ∷ s)
  best_link c here near first b =
      record {
        chain = link c b.chain;
        shortest = λ m t. omega (arith, here.least m t, best_long here near b);
        smallest = λ m t e. best_smallest here near b first t e;
      }
