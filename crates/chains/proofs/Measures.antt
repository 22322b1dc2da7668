-- Distances by rounds: right at 0, right after each round, and final after as many rounds as there are entities.
use Prim.Native.Nat.{ℕ, zero, suc, ◌+◌, ◌-◌, ◌≤◌, ◌<◌}
use mathlib.Core.Path.{◌≡◌, refl, sym, ap, subst, ◌∙◌}
use mathlib.Core.List.{List, ◌∷◌}
use native.Mathlib.Decide.{ℕ_discrete, dec_lt}
use native.Mathlib.Omega.{arith}
use lib.ListN.{length, set, replicate, length-replicate, get_or-replicate}
use lib.Seq.{get_or-set_same, get_or-set_other}
use Rattle.std.specs.Prelude.{Option, Some, None}
use Rattle.answers.specs.Rows.{Bytes, at}
use Rattle.theory.specs.Chain.{Chain, link, Best}
use Rattle.theory.proofs.Chains.{Goes, ends, on, chain_goes, chain_long}
use Rattle.theory.proofs.Exists.{best_exists, best_fits}
use Rattle.theory.proofs.Filled.{bytes_inside}
use Rattle.chains.specs.Distance.{known, Distance, Moved, kept, moved, Near, Round, NoneAt, Final, Distances}
use Rattle.chains.proofs.Distances.{distance_none, distance_below}
use Rattle.theory.specs.Laws.{Inside}

-- the distance of x is right up to r; none stands for more
abbrev pub Known : (ch : ℕ → ℕ → Type 0) (y r x : ℕ) → Option ℕ → Type 0
Known ch y r x (Some k) = (k ≤ r) × Distance ch y k x
Known ch y r x None = (m : List ℕ) → Chain ch x y m → suc r < length m

abbrev pub Measured : (ch : ℕ → ℕ → Type 0) (n y r : ℕ) → List (Option ℕ) → Type 0
Measured ch n y r dist = (x : ℕ) → x < n → Known ch y r x (known dist x)

-- ---- at 0: y alone
module _ (ch : ℕ → ℕ → Type 0) {n y : ℕ} (size : ℕ) (few : n ≤ size) (inside : y < n) where
  first : List (Option ℕ)
  first = set (replicate size None) y (Some 0)

  longer : {x : ℕ} {m : List ℕ} → (x ≡ y → ⊥) → Goes ch x y m → 1 < length m
  longer ne (ends q f) = absurd (ne q)
  longer ne (on z t f c u) = let e = ap length f in omega (arith, chain_long u)

  known_first : (x : ℕ) → x < n → Dec (x ≡ y) → Known ch y 0 x (known first x)
  unfolding first
  known_first x l (yes e) =
      let here : known first y ≡ Some 0 = get_or-set_same (replicate size None) y (Some 0) None (omega (arith, length-replicate {A = Option ℕ} size None)) in
      subst (λ (k : ℕ). Known ch y 0 k (known first k)) (sym e) (rw here (omega arith, distance_none))
  known_first x l (no ne) =
      let none : known first x ≡ None =
      get_or-set_other (replicate size None) y x (Some 0) None ne ∙ get_or-replicate size x None None (omega arith) in
      rw none (λ m c. longer ne (chain_goes c))

  pub measured_first : Measured ch n y 0 (set (replicate size None) y (Some 0))
  unfolding first
  measured_first x l = known_first x l (ℕ_discrete x y)

-- ---- one more round
module _ {ch : ℕ → ℕ → Type 0} {n r : ℕ} (y : ℕ) {dist dist' : List (Option ℕ)} (inner : Inside n ch) (m : Measured ch n y r dist) (s : Round ch n r n dist dist') where
  module _ {x : ℕ} (inside : x < n) (unset : known dist' x ≡ None) (none : (l : List ℕ) → Chain ch x y l → suc r < length l) where
    -- by way of z, which is not at r
    longer_by : {z : ℕ} {t : List ℕ} → ch x z → Chain ch z y t → (d : Option ℕ) → known dist z ≡ d → Known ch y r z d → suc r < length t
    longer_by {z} c u (Some k) e (h, d) =
        let same : k ≡ r = omega (arith, d.long, none (x ∷ d.way) (link c d.chain)) in
        absurd (s.left x inside unset (record { to = z; below = (inner x z c).1; channel = c; at = e ∙ ap Some same }))
    longer_by {t = t} c u None e none' = none' t u

    longer_next : {l : List ℕ} → suc r < length l → Goes ch x y l → suc (r + 1) < length l
    longer_next h (ends q f) = absurd (let e = ap length f in omega arith)
    longer_next h (on z t f c u) = let e = ap length f in omega (arith, longer_by c u (known dist z) refl (m z (inner x z c).1))

  known_kept : {x : ℕ} → x < n → (d : Option ℕ) → known dist' x ≡ d → Known ch y r x d → Known ch y (r + 1) x d
  known_kept l (Some k) e (h, d) = (omega arith, d)
  known_kept l None e none = λ t c. longer_next l e none (none t c) (chain_goes c)

  known_moved : {x : ℕ} → Near ch dist r n x → Known ch y r x None → Distance ch y (r + 1) x
  known_moved {x} p none =
      let d : Distance ch y r p.to = (rw p.at at (m p.to p.below)).1 in
      record { way = x ∷ d.way; chain = link p.channel d.chain; long = omega (arith, d.long); least = λ t u. omega (arith, none t u) }

  known_next : {x : ℕ} → x < n → Moved (Near ch dist r n) (r + 1) dist dist' x → Known ch y (r + 1) x (known dist' x)
  known_next {x} l (kept e) = rw e (known_kept l (known dist x) e (m x l))
  known_next {x} l (moved o e p) = rw e (omega arith, known_moved p (rw o at (m x l)))

  pub measured_next : Measured ch n y (r + 1) dist'
  measured_next x l = known_next l (s.each x)

-- ---- a round that leaves no entity at r sets no distance
module _ {ch : ℕ → ℕ → Type 0} {n r : ℕ} (y : ℕ) {dist dist' : List (Option ℕ)} (m : Measured ch n y r dist) (s : Round ch n r n dist dist')
    (none : NoneAt r n dist') where
  none_before : NoneAt r n dist
  none_before x l e = go (s.each x)
    where
      go : Moved (Near ch dist r n) (r + 1) dist dist' x → ⊥
      go (kept k) = none x l (k ∙ e)
      go (moved o f p) = cc

  same : {x : ℕ} → Moved (Near ch dist r n) (r + 1) dist dist' x → known dist' x ≡ known dist x
  same (kept e) = e
  same (moved o f p) = absurd (none_before p.to p.below p.at)

  pub measured_same : Measured ch n y r dist'
  measured_same x l = rw (same (s.each x)) (m x l)

-- ---- no entity at r: no round from there on sets a distance
module _ {ch : ℕ → ℕ → Type 0} {n r : ℕ} (y : ℕ) (dist : List (Option ℕ)) (inner : Inside n ch) (m : Measured ch n y r dist)
    (none : NoneAt r n dist) where
  no_near : (j : ℕ) {x : ℕ} → Near ch dist (r + j) n x → ⊥
  no_near j p =
      let low : r + j ≤ r = (rw p.at at (m p.to p.below)).0 in
      let here : r + j ≡ r = omega arith in
      none p.to p.below (p.at ∙ ap Some here)

  idle : (j : ℕ) → Round ch n (r + j) n dist dist
  idle j = record { each = λ x. kept refl; left = λ x l e p. no_near j p }

  measured_after : (j : ℕ) → Measured ch n y (r + j) dist
  measured_after zero = let same : r + 0 ≡ r = omega arith in rw same m
  measured_after (suc j) = let next : r + suc j ≡ r + j + 1 = omega arith in rw next (measured_next y inner (measured_after j) (idle j))

  pub measured_on : (k : ℕ) → r ≤ k → Measured ch n y k dist
  measured_on k h = let same : r + (k - r) ≡ k = omega arith in rw same at (measured_after (k - r))

-- ---- n rounds: a shortest chain has at most n entities
bytes_decided : (n : ℕ) (table : List ℕ) (a b : ℕ) → Dec (Bytes n table a b)
bytes_decided n table a b = go (dec_lt a n) (dec_lt b n) (ℕ_discrete (at table n a b) 1)
  where
    go : Dec (a < n) → Dec (b < n) → Dec (at table n a b ≡ 1) → Dec (Bytes n table a b)
    go (yes h) (yes l) (yes e) = yes (record { source = h; target = l; byte = e })
    go (no h) l e = no (λ c. h c.source)
    go (yes h) (no l) e = no (λ c. l c.target)
    go (yes h) (yes l) (no e) = no (λ c. e c.byte)

module _ (n y : ℕ) (table : List ℕ) where
  final : {x : ℕ} → x < n → (d : Option ℕ) → Known (Bytes n table) y n x d → Final (Bytes n table) n y x d
  final l (Some k) (h, d) = (distance_below (bytes_inside n table) l d, d)
  final {x} l None none = λ f. too_long (best_exists (bytes_inside n table) (bytes_decided n table) y f)
    where
      too_long : (l : List ℕ) × Best (Bytes n table) x y l → ⊥
      too_long (m, b) = omega (arith, best_fits (bytes_inside n table) (bytes_decided n table) y l b, none m b.chain)

  pub distances_final : (dist : List (Option ℕ)) → Measured (Bytes n table) n y n dist → Distances (Bytes n table) n y dist
  distances_final dist m = record { final = λ x l. final l (known dist x) (m x l) }
