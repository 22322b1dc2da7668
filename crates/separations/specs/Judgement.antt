-- The first broken separation, over any relation of channels.
use Rattle.std.specs.Prelude.{ℕ, ◌<◌, ◌≡◌, List, length, Option, Some, None, Result, Ok, Err}
use Rattle.answers.specs.declared.refused.Refused.{Refused as Why}
use Rattle.answers.specs.Refused.{number}
use Rattle.answers.specs.Rows.{over}
use Rattle.tables.specs.Sheet.{from, to}
use Rattle.theory.specs.Flow.{Flow}
use Rattle.theory.specs.Chain.{Best}
use Rattle.separations.specs.declared.Judged.{Judged}
use Rattle.separations.specs.declared.Breach.{Breach}

-- "data of entity x must not reach entity y"; "one is broken exactly if such a chain exists", separation i
abbrev pub Broken : (ℕ → ℕ → Type 0) → List ℕ → ℕ → Type 0
Broken ch separations i = Flow ch (from separations i) (to separations i)

-- "Separations are judged in list order. The first broken one"
pub record FirstBroken (ch : ℕ → ℕ → Type 0) (count : ℕ) (separations : List ℕ) (i : ℕ) : Type 0 where
  pub below : i < count
  pub broken : Broken ch separations i
  pub before : (j : ℕ) → j < i → Broken ch separations j → ⊥

-- none is broken
abbrev pub AllHold : (ℕ → ℕ → Type 0) → ℕ → List ℕ → Type 0
AllHold ch count separations = (j : ℕ) → j < count → Broken ch separations j → ⊥

-- answer, position and chain count
abbrev pub judged : ℕ → ℕ → ℕ → Judged
judged n position count = record { answer = n; position = position; count = count }

-- "The first broken one is answered by 14, its position from 0 and its chain"; with nothing to tell, "position and chain count" are 0
abbrev pub judged_found : Option Breach → Judged
judged_found (Some found) = judged 14 found.position found.count
judged_found None = judged 0 0 0

-- "Every other number in its answer .. is 0": of a refusal the number is told
abbrev pub judged_of : Result (Option Breach) Why → Judged
judged_of (Ok found) = judged_found found
judged_of (Err why) = judged (number why) 0 0

-- "The first broken one is answered by 14, its position from 0 and its chain"; where all hold, "position and chain count" are 0 and
-- "the chain buffer is then unaltered"
pub data Judgement (ch : ℕ → ℕ → Type 0) (count : ℕ) (separations before : List ℕ) (result : Judged × List ℕ) : Type 0 where
  hold : AllHold ch count separations → result ≡ (judged 0 0 0, before) → Judgement ch count separations before result
  broken : (i : ℕ) (l : List ℕ) → FirstBroken ch count separations i → Best ch (from separations i) (to separations i) l →
      result ≡ (judged 14 i (length l), over l before) → Judgement ch count separations before result

-- "The first broken separation is named .. and the shortest is shown": what an answer of 14 tells
pub record Finding (ch : ℕ → ℕ → Type 0) (count : ℕ) (separations before : List ℕ) (j : Judged) (after : List ℕ) : Type 0 where
  pub first : FirstBroken ch count separations j.position
  pub chain : List ℕ
  pub best : Best ch (from separations j.position) (to separations j.position) chain
  pub counted : j.count ≡ length chain
  pub written : after ≡ over chain before
