-- Chains of channels, and the one that is shown.
use Rattle.std.specs.Prelude.{ℕ, ◌≤◌, ◌<◌, ◌≡◌, List, [], ◌∷◌, length}

-- "a list of entities, each joined to the next by a channel", from x to y; "From x to x it is x alone"
pub data Chain (ch : ℕ → ℕ → Type 0) : ℕ → ℕ → List ℕ → Type 0 where
  alone : {y : ℕ} → Chain ch y y (y ∷ [])
  link : {x z y : ℕ} {l : List ℕ} → ch x z → Chain ch z y l → Chain ch x y (x ∷ l)

-- "compared number by number from the start": l is not after m
pub data NotAfter : List ℕ → List ℕ → Type 0 where
  ended : {m : List ℕ} → NotAfter [] m
  less : {a b : ℕ} {l m : List ℕ} → a < b → NotAfter (a ∷ l) (b ∷ m)
  equal : {a : ℕ} {l m : List ℕ} → NotAfter l m → NotAfter (a ∷ l) (a ∷ m)

-- "The chain from x to y is .. shortest, and among the shortest the smallest"
pub record Best (ch : ℕ → ℕ → Type 0) (x y : ℕ) (l : List ℕ) : Type 0 where
  pub chain : Chain ch x y l
  pub shortest : (m : List ℕ) → Chain ch x y m → length l ≤ length m
  pub smallest : (m : List ℕ) → Chain ch x y m → length m ≡ length l → NotAfter l m

-- no entity of the list is w
pub data Absent (a : ℕ) : List ℕ → Type 0 where
  nowhere : Absent a []
  further : {b : ℕ} {l : List ℕ} → (b ≡ a → ⊥) → Absent a l → Absent a (b ∷ l)

-- none stands twice
pub data Distinct : List ℕ → Type 0 where
  empty : Distinct []
  more : {a : ℕ} {l : List ℕ} → Absent a l → Distinct l → Distinct (a ∷ l)
