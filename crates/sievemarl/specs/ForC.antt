-- "filling the flow table and judging the separations must be callable from there with numbers and byte buffers"
use Rattle.std.specs.Prelude.{ℕ, ◌≡◌, List}
use Rattle.tables.specs.Sheet.{Lent}
use Rattle.flow.specs.Fill.{Fills}
use Rattle.separations.specs.declared.Judged.{Judged}
use Rattle.verdict.specs.Judge.{Judges}
use Rattle.sievemarl.specs.Packed.{packed}

-- the contract of `sievemarl_fill_flow`, which is that of `fill`: the answer, and the flow buffer afterwards
abbrev pub FillsForC : Lent → List ℕ → ℕ × List ℕ → Type 0
FillsForC l before result = Fills l before result

-- the contract of `sievemarl_judge`: "There, judging returns answer + 256 x position + 65,536 x chain count", and the chain buffer
-- afterwards
pub record JudgesForC (l : Lent) (count : ℕ) (separations before : List ℕ) (result : ℕ × List ℕ) : Type 0 where
  pub judged : Judged
  pub judges : Judges l count separations before (judged, result.1)
  pub returned : result.0 ≡ packed judged
