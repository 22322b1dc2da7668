-- Demand 3, second half, of a chain that a call told.
use Rattle.std.specs.Prelude.{ℕ, ◌-◌, ◌≡◌, List, length, take}
use Rattle.tables.specs.Sheet.{Lent, sheet_in, entities}
use Rattle.theory.specs.Chain.{Best}
use Rattle.access.specs.Channel.{Channel}
use Rattle.transfers.specs.declared.Tally.{Tally}
use Rattle.transfers.specs.Rehearse.{Rehearsed}
use Rattle.transfers.specs.Demand3.{TwoLendings, Reached}
use Rattle.rehearsal.specs.Demand3.{Ready, RehearsesChain, RehearsesChainFlat}

-- "an accepted rehearsal of the shown chain's transfers ends, from any two such sets, with different marks at y": it is accepted, by the
-- entry whose contract `Rehearsal` is, and applies the k - 1 transfers of a chain of k entities
abbrev pub Reaches : (Lent → List ℕ → List ℕ → List ℕ → Tally → Rehearsed → Type 0) → Lent → ℕ → ℕ → ℕ → List ℕ → Type 0
Reaches Rehearsal l x y k chain =
    (marks marks' verdicts verdicts' : List ℕ) (t : Tally) → TwoLendings (entities l.counts) x marks marks' verdicts verdicts' →
    Ready l marks verdicts t → (r r' : Rehearsed) → Rehearsal l chain marks verdicts t r → Rehearsal l chain marks' verdicts' t r' →
    Reached (k - 1) y r r'

-- what a call told that left k entities at the front of a buffer: "The chain from x to y", along which data of x moves to y
pub record ChainTold (l : Lent) (x y k : ℕ) (buffer : List ℕ) : Type 0 where
  pub shown : Best (Channel (sheet_in l)) x y (take k buffer)
  pub counted : length (take k buffer) ≡ k
  -- "Transfers come as flat bytes, three each"
  pub flat : Reaches RehearsesChainFlat l x y k (take k buffer)
  -- "a thin second entry takes a list of transfer records"
  pub records : Reaches RehearsesChain l x y k (take k buffer)
