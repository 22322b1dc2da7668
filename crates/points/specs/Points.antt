-- "Worked points on that sheet .. all as a single table": what they say of the sheet t that reading makes of the printed text.
use Rattle.std.specs.Prelude.{ℕ, ◌≡◌, List, [], ◌∷◌}
use Rattle.tables.specs.Sheet.{Sheet, entities}
use Rattle.theory.specs.Chain.{Best}
use Rattle.theory.specs.Order.{Label, ClassName, below, Compares}
use Rattle.access.specs.Channel.{Channel, SheetFlow}
use Rattle.change.specs.Change.{with_permission}
use Rattle.transfers.specs.declared.Act.{Act}
use Rattle.transfers.specs.declared.Transfer.{Transfer}
use Rattle.transfers.specs.Acts.{verdict_bytes, after, AllCome}
use Rattle.transfers.specs.Transfers.{transfer, Comes}

-- "With role 1 given mode 3 on object 1"
abbrev pub changed : Sheet → Sheet
changed t = with_permission t 1 1 3

-- transfers, rehearsed from some marks, give these verdict bytes and leave these marks
pub record Leaves (t : Sheet) (transfers : List Transfer) (marks : List ℕ) (verdicts left : List ℕ) : Type 0 where
  pub acts : List Act
  pub come : AllCome (Comes t.counts (Channel t)) transfers acts
  pub told : verdict_bytes acts ≡ verdicts
  pub marks_left : after acts marks ≡ left

-- the table
pub record Points (t : Sheet) : Type 0 where
  -- "1. flow 0 to 4: yes. 2. flow 4 to 0: no. 3. flow 5 to 2: yes. 4. flow 4 to 5: no."
  pub point_1 : SheetFlow t 0 4
  pub point_2 : SheetFlow t 4 0 → ⊥
  pub point_3 : SheetFlow t 5 2
  pub point_4 : SheetFlow t 4 5 → ⊥
  -- "5. chain 0 to 4: 0, 3, 1, 4. 6. chain 2 to 2: 2."
  pub point_5 : Best (Channel t) 0 4 (0 ∷ 3 ∷ 1 ∷ 4 ∷ [])
  pub point_6 : Best (Channel t) 2 2 (2 ∷ [])
  -- "7. label of 4: 0, 1, 3, 4."
  pub point_7 : Label (entities t.counts) (SheetFlow t) 4 (1 ∷ 1 ∷ 0 ∷ 1 ∷ 1 ∷ 0 ∷ [])
  -- "8. With role 1 given mode 3 on object 1, the class of 4 is named 1. 9. There, 3 is still below 4."
  pub point_8 : ClassName (entities t.counts) (SheetFlow (changed t)) 4 1
  pub point_9 : Compares (SheetFlow (changed t)) 3 4 below
  -- "10. Marks 7,0,0,0,0,0; transfers (0,0,2), (1,0,1), (1,1,2): marks 7,7,0,7,7,0."
  pub point_10 :
      Leaves t (transfer 0 0 2 ∷ transfer 1 0 1 ∷ transfer 1 1 2 ∷ []) (7 ∷ 0 ∷ 0 ∷ 0 ∷ 0 ∷ 0 ∷ []) (0 ∷ 0 ∷ 0 ∷ []) (7 ∷ 7 ∷ 0 ∷ 7 ∷ 7 ∷ 0 ∷ [])
  -- "11. The same in reverse order: 7,0,0,7,0,0."
  pub point_11 :
      Leaves t (transfer 1 1 2 ∷ transfer 1 0 1 ∷ transfer 0 0 2 ∷ []) (7 ∷ 0 ∷ 0 ∷ 0 ∷ 0 ∷ 0 ∷ []) (0 ∷ 0 ∷ 0 ∷ []) (7 ∷ 0 ∷ 0 ∷ 7 ∷ 0 ∷ 0 ∷ [])
  -- "12. Mark of 0 is 4,294,967,295, of 3 is 2; (0,0,2) leaves 1 in entity 3."
  pub point_12 :
      Leaves t (transfer 0 0 2 ∷ []) (4294967295 ∷ 0 ∷ 0 ∷ 2 ∷ 0 ∷ 0 ∷ []) (0 ∷ []) (4294967295 ∷ 0 ∷ 0 ∷ 1 ∷ 0 ∷ 0 ∷ [])
  -- "13. (0,1,2): verdict 16, marks unchanged."
  pub point_13 : (marks : List ℕ) → Leaves t (transfer 0 1 2 ∷ []) marks (16 ∷ []) marks
