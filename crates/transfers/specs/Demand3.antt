-- The words of demand 3, over demand 2's labels and any relation of channels.
use Rattle.std.specs.Prelude.{ℕ, ◌-◌, ◌^◌, ◌<◌, ◌≡◌, cond, List, [], ◌∷◌, ltb, length, get_or, take, replicate}
use Rattle.tables.specs.declared.Counts.{Counts}
use Rattle.theory.specs.Flow.{Flow}
use Rattle.theory.specs.Order.{InLabel}
use Rattle.transfers.specs.declared.Transfer.{Transfer}
use Rattle.transfers.specs.declared.Act.{Act}
use Rattle.transfers.specs.declared.Act.TheVariants.{Moves}
use Rattle.transfers.specs.Transfers.{transfer}
use Rattle.transfers.specs.Rehearse.{Rehearsed}

-- ---- what both rehearsals are given
-- "Each entity holds a 32-bit mark"
abbrev pub Marks32 : List ℕ → Type 0
Marks32 marks = (z : ℕ) → get_or marks z 0 < 2 ^ 32

-- "two sets of starting marks that differ at entity x only, lent in buffers of the same lengths"; n entities have marks
pub record DifferAt (n x : ℕ) (marks marks' : List ℕ) : Type 0 where
  pub same_length : length marks ≡ length marks'
  pub differ : get_or marks x 0 ≡ get_or marks' x 0 → ⊥
  pub agree : (z : ℕ) → z < n → (z ≡ x → ⊥) → get_or marks z 0 ≡ get_or marks' z 0

-- the same of 32-bit marks and an entity
pub record Starts (n x : ℕ) (marks marks' : List ℕ) : Type 0 where
  pub entity : x < n
  pub bits : Marks32 marks
  pub bits' : Marks32 marks'
  pub apart : DifferAt n x marks marks'

-- "lent in buffers of the same lengths, the verdict bytes too"
pub record TwoLendings (n x : ℕ) (marks marks' verdicts verdicts' : List ℕ) : Type 0 where
  pub starts : Starts n x marks marks'
  pub same_verdict_length : length verdicts ≡ length verdicts'

-- ---- the first half
-- "Both rehearsals give equal answers and counts, and an entity whose label lacks x ends with equal marks": the results of one list of k
-- transfers; the verdict bytes are equal too
pub record Alike (n : ℕ) (ch : ℕ → ℕ → Type 0) (x k : ℕ) (r r' : Rehearsed) : Type 0 where
  pub same_answer : r.answer ≡ r'.answer
  pub same_applied : r.applied ≡ r'.applied
  pub same_tally : r.tally ≡ r'.tally
  pub same_verdicts : r.answer ≡ 0 → take k r.verdicts ≡ take k r'.verdicts
  pub same_marks : (y : ℕ) → y < n → (InLabel (Flow ch) y x → ⊥) → get_or r.marks y 0 ≡ get_or r'.marks y 0

-- ---- the second half
-- the transfer from entity a to entity b, of which one is a subject and one an object
unfoldable pub transfer_of : Counts → ℕ → ℕ → Transfer
transfer_of c a b = cond (ltb a c.subjects) (transfer a (b - c.subjects) 2) (transfer b (a - c.subjects) 1)

-- "the shown chain's transfers"
unfoldable pub chain_transfers : Counts → List ℕ → List Transfer
chain_transfers c [] = []
chain_transfers c (a ∷ []) = []
chain_transfers c (a ∷ b ∷ l) = transfer_of c a b ∷ chain_transfers c (b ∷ l)

-- the moves that these come to, one along each step
unfoldable pub chain_moves : List ℕ → List Act
chain_moves [] = []
chain_moves (a ∷ []) = []
chain_moves (a ∷ b ∷ l) = Moves a b ∷ chain_moves (b ∷ l)

-- "an accepted rehearsal": of k transfers, of which each was applied
pub record AllApplied (k : ℕ) (r : Rehearsed) : Type 0 where
  pub accepted : r.answer ≡ 0
  pub all_counted : r.applied ≡ k
  pub all_zero : take k r.verdicts ≡ replicate k 0

-- "ends, from any two such sets, with different marks at y"
pub record Reached (k y : ℕ) (r r' : Rehearsed) : Type 0 where
  pub applied : AllApplied k r
  pub applied' : AllApplied k r'
  pub differ : get_or r.marks y 0 ≡ get_or r'.marks y 0 → ⊥
