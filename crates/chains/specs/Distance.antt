-- Distances to y, by which a chain is found. No promise: it only ties functions together.
use Rattle.std.specs.Prelude.{ℕ, suc, ◌+◌, ◌≤◌, ◌<◌, ◌≡◌, List, length, Option, Some, None, slice_index_or}
use Rattle.theory.specs.Flow.{Flow}
use Rattle.theory.specs.Chain.{Chain}

-- the distance of x, if it is known
abbrev pub known : List (Option ℕ) → ℕ → Option ℕ
known dist x = slice_index_or dist x None

-- a shortest chain from x to y has k channels
pub record Distance (ch : ℕ → ℕ → Type 0) (y k x : ℕ) : Type 0 where
  pub way : List ℕ
  pub chain : Chain ch x y way
  pub long : length way ≡ suc k
  pub least : (m : List ℕ) → Chain ch x y m → suc k ≤ length m

-- what became of the distance of x: nothing, or it was not known and is d, since x has P
pub data Moved (P : ℕ → Type 0) (d : ℕ) (dist dist' : List (Option ℕ)) (x : ℕ) : Type 0 where
  kept : known dist' x ≡ known dist x → Moved P d dist dist' x
  moved : known dist x ≡ None → known dist' x ≡ Some d → P x → Moved P d dist dist' x

-- of the entities below limit, each that has P and whose distance was not known is at d
pub record Settled (P : ℕ → Type 0) (d limit : ℕ) (dist dist' : List (Option ℕ)) : Type 0 where
  pub each : (x : ℕ) → Moved P d dist dist' x
  pub left : (x : ℕ) → x < limit → known dist' x ≡ None → P x → ⊥

-- x has a channel to some entity below limit that is at distance r
pub record Near (ch : ℕ → ℕ → Type 0) (dist : List (Option ℕ)) (r limit x : ℕ) : Type 0 where
  pub to : ℕ
  pub below : to < limit
  pub channel : ch x to
  pub at : known dist to ≡ Some r

-- a round at r: each entity with a channel to one at r, whose distance was not known, is at r + 1
abbrev pub Round : (ch : ℕ → ℕ → Type 0) (n r limit : ℕ) (dist dist' : List (Option ℕ)) → Type 0
Round ch n r limit dist dist' = Settled (Near ch dist r limit) (r + 1) n dist dist'

-- no entity below n is at distance r
abbrev pub NoneAt : (r n : ℕ) (dist : List (Option ℕ)) → Type 0
NoneAt r n dist = (x : ℕ) → x < n → known dist x ≡ Some r → ⊥

-- the distance of x to y, or none where x does not flow to y
abbrev pub Final : (ch : ℕ → ℕ → Type 0) (n y x : ℕ) → Option ℕ → Type 0
Final ch n y x (Some k) = (k < n) × Distance ch y k x
Final ch n y x None = Flow ch x y → ⊥

-- the distances of the entities below n are final
pub record Distances (ch : ℕ → ℕ → Type 0) (n y : ℕ) (dist : List (Option ℕ)) : Type 0 where
  pub final : (x : ℕ) → x < n → Final ch n y x (known dist x)

-- the smallest number below n with P, or none where there is none
abbrev pub Smallest : (P : ℕ → Type 0) (n : ℕ) → Option ℕ → Type 0
Smallest P n (Some k) = (k < n) × P k × ((j : ℕ) → j < k → P j → ⊥)
Smallest P n None = (j : ℕ) → j < n → P j → ⊥
