-- How one transfer is made. No promise: it only ties functions together.
use Rattle.std.specs.Prelude.{◌≡◌, ℕ, ◌+◌, ◌<◌, ◌≤◌, cond, List, length, ◌==◌, slice_set}
use Rattle.std.specs.Borrow.{MutBor}
use Rattle.answers.specs.Sizes.{most_transfers}
use Rattle.tables.specs.declared.Counts.{Counts}
use Rattle.transfers.specs.declared.Act.{Act}
use Rattle.transfers.specs.declared.Act.TheVariants.{Moves, OutOfRange, NotPermitted}
use Rattle.transfers.specs.declared.Tally.{Tally}
use Rattle.transfers.specs.declared.Transfer.{Transfer}
use Rattle.transfers.specs.Acts.{verdict_byte, acted}
use Rattle.transfers.specs.Transfers.{Comes}
use Rattle.transfers.specs.Rehearse.{tally}

-- what a way from a to b comes to
pub data Tried (ch : ℕ → ℕ → Type 0) (a b : ℕ) : Act → Type 0 where
  has_channel : ch a b → Tried ch a b (Moves a b)
  lacks_channel : (ch a b → ⊥) → Tried ch a b NotPermitted

-- an act that moves between n marks, or moves none
pub data MovesWithin (n : ℕ) : Act → Type 0 where
  between : {a b : ℕ} → a < n → b < n → MovesWithin n (Moves a b)
  no_number : MovesWithin n OutOfRange
  no_channel : MovesWithin n NotPermitted

-- counts with room for one transfer more
pub record OneMore (t : Tally) : Type 0 where
  pub applied : t.applied < most_transfers
  pub outside : t.outside < most_transfers
  pub barred : t.barred < most_transfers

-- one verdict byte more
unfoldable pub noted : Tally → ℕ → Tally
noted t v = tally (t.applied + cond (v == 0) 1 0) (t.outside + cond (v == 10) 1 0) (t.barred + cond (v == 16) 1 0)

-- where a rehearsal stands: its marks, its verdict bytes and its counts
pub record State : Type 0 where
  pub marks : List ℕ
  pub verdicts : List ℕ
  pub counts : Tally

-- marks, verdict bytes and counts, at one time
abbrev pub state_of : List ℕ → List ℕ → Tally → State
state_of marks verdicts counts = record { marks = marks; verdicts = verdicts; counts = counts }

-- the same of what is lent
abbrev pub state : MutBor (List ℕ) → MutBor (List ℕ) → MutBor Tally → State
state marks verdicts counts = state_of marks.now verdicts.now counts.now

-- a rehearsal among n entities that can make its transfer number k
pub record Steppable (n k : ℕ) (s : State) : Type 0 where
  pub marked : n ≤ length s.marks
  pub place : k < length s.verdicts
  pub few : k < most_transfers
  pub applied : s.counts.applied ≤ k
  pub outside : s.counts.outside ≤ k
  pub barred : s.counts.barred ≤ k

-- transfer number k made
pub record Stepped (c : Counts) (ch : ℕ → ℕ → Type 0) (t : Transfer) (k : ℕ) (before after : State) : Type 0 where
  pub act : Act
  pub comes : Comes c ch t act
  pub marks_are : after.marks ≡ acted act before.marks
  pub verdicts_are : after.verdicts ≡ slice_set before.verdicts k (verdict_byte act)
  pub counts_are : after.counts ≡ noted before.counts (verdict_byte act)
