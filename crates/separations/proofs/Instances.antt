-- Laws at the small network, and at a sheet of two subjects and nothing else.
use Prim.Native.Nat.{ℕ, zero, suc, ◌<◌}
use mathlib.Core.Logic.{◌⊎◌}
use mathlib.Core.List.{[], ◌∷◌}
use native.Mathlib.Omega.{arith}
use lib.Dec.{lit<}
use Rattle.tables.specs.Sheet.{Sheet, sheet, counts, from}
use Rattle.theory.specs.Flow.{here}
use Rattle.theory.specs.Chain.{Best}
use Rattle.access.specs.Channel.{Channel}
use Rattle.separations.specs.Judgement.{FirstBroken, AllHold}
use Rattle.separations.proofs.ACase.{Hop, alone_shown}
use Rattle.separations.proofs.Verdicts.{judged_one_way}
use Rattle.separations.proofs.Findings.{told_chain, tells_chain}

-- the chain that was told
alone_told : Best Hop 1 1 (1 ∷ [])
alone_told = (told_chain alone_shown (tells_chain alone_shown here)).0

-- ---- of that sheet the separation from 0 to 1 is judged one way or the other
abbrev apart : Sheet
apart = sheet (counts 2 0 0) [] [] []

-- met by the sheet of two subjects and nothing else: its one separation, from 0 to 1, is the first broken one, or all hold
one_way : ((i : ℕ) × FirstBroken (Channel apart) 1 (0 ∷ 1 ∷ []) i) ⊎ AllHold (Channel apart) 1 (0 ∷ 1 ∷ [])
one_way = judged_one_way apart 1 (0 ∷ 1 ∷ []) entity
  where
    entity : (i : ℕ) → i < 1 → from (0 ∷ 1 ∷ []) i < 2
    entity zero h = lit< tt
    entity (suc i) h = absurd (omega arith)
