-- Laws of chains, for any relation of channels: a chain is a flow; the chain that is shown is one, and repeats no entity.
use Prim.Native.Nat.{ℕ, ◌≤◌, ◌<◌}
use mathlib.Core.Path.{◌≡◌, refl, sym, ap, subst}
use mathlib.Core.List.{List, [], ◌∷◌, ◌++◌}
use native.Mathlib.Omega.{arith}
use lib.ListN.{length}
use Rattle.theory.specs.Flow.{Flow, here, step}
use Rattle.theory.specs.Chain.{Chain, alone, link, NotAfter, ended, less, equal, Best, Absent, nowhere, further, Distinct, empty, more}
use Rattle.theory.proofs.Flows.{flow_cons}
use Rattle.theory.proofs.Distinct.{AllBelow, none, next}
use Rattle.theory.specs.Laws.{Contains, Inside}

-- a chain ends where it starts, or goes on by a channel
pub data Goes (ch : ℕ → ℕ → Type 0) (x y : ℕ) (l : List ℕ) : Type 0 where
  ends : x ≡ y → l ≡ x ∷ [] → Goes ch x y l
  on : (z : ℕ) (m : List ℕ) → l ≡ x ∷ m → ch x z → Chain ch z y m → Goes ch x y l

module _ {ch : ℕ → ℕ → Type 0} where
  -- ---- chains and flow
  -- "a finite chain .. leads there": from the first entity of a chain data gets to its last
  pub chain_flow : {x y : ℕ} {l : List ℕ} → Chain ch x y l → Flow ch x y
  chain_flow alone = here
  chain_flow (link c t) = flow_cons c (chain_flow t)

  -- a channel at the end
  pub chain_snoc : {x z y : ℕ} {l : List ℕ} → Chain ch x z l → ch z y → Chain ch x y (l ++ (y ∷ []))
  chain_snoc alone c = link c alone
  chain_snoc (link d t) c = link d (chain_snoc t c)

  -- "Data can get from x to y exactly if a finite chain .. leads there": where x flows to y there is a chain, whatever the channels
  pub flow_chain : {x y : ℕ} → Flow ch x y → (l : List ℕ) × Chain ch x y l
  flow_chain {x} here = (x ∷ [], alone)
  flow_chain (step f c) = let r = flow_chain f in (_, chain_snoc r.1 c)

  pub chain_goes : {x y : ℕ} {l : List ℕ} → Chain ch x y l → Goes ch x y l
  chain_goes alone = ends refl refl
  chain_goes (link {z = z} {l = l} c t) = on z l refl c t

  pub chain_long : {x y : ℕ} {l : List ℕ} → Chain ch x y l → 1 ≤ length l
  chain_long alone = omega arith
  chain_long (link c t) = omega arith

  -- chains whose starts differ
  pub chain_less : {w z y : ℕ} {l m : List ℕ} → Chain ch w y l → Chain ch z y m → w < z → NotAfter l m
  chain_less alone alone h = less h
  chain_less alone (link c t) h = less h
  chain_less (link c t) alone h = less h
  chain_less (link c t) (link d u) h = less h

  pub chain_inside : {n x y : ℕ} {l : List ℕ} → Inside n ch → x < n → Chain ch x y l → AllBelow n l
  chain_inside inside h alone = next h none
  chain_inside inside h (link c t) = next h (chain_inside inside (inside _ _ c).1 t)

  -- ---- from y to y it is y alone
  pub only_alone : {x y : ℕ} {m : List ℕ} → Chain ch x y m → length m ≡ 1 → NotAfter (x ∷ []) m
  only_alone alone e = equal ended
  only_alone (link c t) e = absurd (omega (arith, chain_long t))

  -- "From x to x it is x alone": that is the shortest chain, and the smallest of the shortest, whatever the channels
  pub best_alone : {y : ℕ} → Best ch y y (y ∷ [])
  best_alone = record { chain = alone; shortest = λ m c. chain_long c; smallest = λ m c e. only_alone c e }

-- ---- there is at most one such chain
not_after_both_at : {l m k j : List ℕ} → NotAfter l m → NotAfter k j → m ≡ k → l ≡ j → l ≡ m
not_after_both_at ended ended e f = sym e
not_after_both_at ended (less g) e f = cc
not_after_both_at ended (equal q) e f = cc
not_after_both_at (less h) ended e f = cc
not_after_both_at (less {a = a} {b = b} h) (less {a = c} {b = d} g) e f =
    let p : b ≡ c = cc in
    let q : a ≡ d = cc in
    absurd (omega arith)
not_after_both_at (less {a = a} {b = b} h) (equal {a = c} q) e f =
    let p : b ≡ c = cc in
    let q : a ≡ c = cc in
    absurd (omega arith)
not_after_both_at (equal p) ended e f = cc
not_after_both_at (equal {a = a} p) (less {a = c} {b = d} g) e f =
    let p : a ≡ c = cc in
    let q : a ≡ d = cc in
    absurd (omega arith)
not_after_both_at (equal {a = a} {l = l} {m = m} p) (equal {l = k} {m = j} q) e f =
    let tails : m ≡ k = cc in
    let heads : l ≡ j = cc in
    ap (λ (t : List ℕ). a ∷ t) (not_after_both_at p q tails heads)

not_after_both : {l m : List ℕ} → NotAfter l m → NotAfter m l → l ≡ m
not_after_both p q = not_after_both_at p q refl refl

-- "shortest, and among the shortest the smallest": from x to y there is at most one such chain, whatever the channels
pub one_best : {ch : ℕ → ℕ → Type 0} {x y : ℕ} {l m : List ℕ} → Best ch x y l → Best ch x y m → l ≡ m
one_best {l = l} {m = m} p q =
    let e : length m ≡ length l = omega (arith, p.shortest m q.chain, q.shortest l p.chain) in
    not_after_both (p.smallest m q.chain e) (q.smallest l p.chain (sym e))

-- ---- a shortest chain repeats no entity: where one stood twice, what lies between could be cut out
module _ {ch : ℕ → ℕ → Type 0} {y : ℕ} where
  -- a chain from a to y that is no longer than any from x, less one, does not come to x
  avoids : {x a : ℕ} {l : List ℕ} → Chain ch a y l → ((m : List ℕ) → Chain ch x y m → length l < length m) → Absent x l
  avoids {x} alone short = further (λ e. omega (arith, short (y ∷ []) (subst (λ (k : ℕ). Chain ch k y (y ∷ [])) e alone))) nowhere
  avoids {x} {a} (link {l = l} c t) short =
      further (λ e. omega (arith, short (a ∷ l) (subst (λ (k : ℕ). Chain ch k y (a ∷ l)) e (link c t)))) (avoids t (λ m u. omega (arith, short m u)))

  -- "The chain from x to y is a list of entities, .. shortest": a chain that is no longer than any other has no entity twice
  pub shortest_distinct : {x : ℕ} {l : List ℕ} → Chain ch x y l → ((m : List ℕ) → Chain ch x y m → length l ≤ length m) → Distinct l
  shortest_distinct alone short = more nowhere empty
  shortest_distinct (link c t) short =
      more (avoids t (λ m u. omega (arith, short m u))) (shortest_distinct t (λ m u. omega (arith, short _ (link c u))))

-- ---- what holds of channels holds of their chains
pub chain_more : {ch ch' : ℕ → ℕ → Type 0} {x y : ℕ} {l : List ℕ} → Contains ch' ch → Chain ch x y l → Chain ch' x y l
chain_more has alone = alone
chain_more has (link c t) = link (has _ _ c) (chain_more has t)

-- channels of the same pairs have the same chain
pub best_agrees : {ch ch' : ℕ → ℕ → Type 0} {x y : ℕ} {l : List ℕ} → Contains ch' ch → Contains ch ch' → Best ch x y l → Best ch' x y l
best_agrees to back b =
    record {
      chain = chain_more to b.chain;
      shortest = λ m c. b.shortest m (chain_more back c);
      smallest = λ m c e. b.smallest m (chain_more back c) e;
    }
