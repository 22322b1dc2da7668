-- The search for a row, in a list of all entities that has those reached in front. No promise: it only ties functions together.
use Rattle.std.specs.Prelude.{ℕ, ◌≤◌, ◌<◌, ◌≡◌, List, length, get_or}
use Rattle.answers.specs.Rows.{Mark, Row}
use Rattle.theory.specs.Flow.{Flow}

-- y stands at one of the first places
pub record Among (order : List ℕ) (places y : ℕ) : Type 0 where
  pub place : ℕ
  pub low : place < places
  pub there : get_or order place 0 ≡ y

-- each entity below n stands at one of the first n places, and nothing else does
pub record Arranged (n : ℕ) (order : List ℕ) : Type 0 where
  pub room : n ≤ length order
  pub entity : (k : ℕ) → k < n → get_or order k 0 < n
  pub stands : (y : ℕ) → y < n → Among order n y

-- the same, with x first
pub record SearchBegun (n x : ℕ) (order : List ℕ) : Type 0 where
  pub arranged : Arranged n order
  pub first : get_or order 0 0 ≡ x

-- up to limit, those that u has a channel to have come to the places from tail up to tail', and those before have not moved
pub record Spread (ch : ℕ → ℕ → Type 0) (n u limit : ℕ) (order order' : List ℕ) (tail tail' : ℕ) : Type 0 where
  pub arranged : Arranged n order'
  pub older : (k : ℕ) → k < tail → get_or order' k 0 ≡ get_or order k 0
  pub newer : (k : ℕ) → tail ≤ k → k < tail' → ch u (get_or order' k 0)
  pub left : (k : ℕ) → tail' ≤ k → k < limit → ch u (get_or order' k 0) → ⊥
  pub grows : tail ≤ tail'
  pub ends : tail' ≤ limit

-- before tail stand exactly those that x flows to
pub record SearchReached (ch : ℕ → ℕ → Type 0) (n x : ℕ) (order : List ℕ) (tail : ℕ) : Type 0 where
  pub arranged : Arranged n order
  pub ends : tail ≤ n
  pub flows : (y : ℕ) → Among order tail y → Flow ch x y
  pub all : (y : ℕ) → Flow ch x y → Among order tail y

-- n bytes that mark those that stand before tail
abbrev pub MarksBefore : (tail n : ℕ) (order row : List ℕ) → Type 0
MarksBefore tail n order row = Row n (λ y byte. Mark (Among order tail y) byte) row
