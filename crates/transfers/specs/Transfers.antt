-- Transfers, over any relation of channels: what each comes to.
use Rattle.std.specs.Prelude.{ℕ, ◌<◌, ◌≡◌, List, [], ◌∷◌}
use Rattle.tables.specs.declared.Counts.{Counts}
use Rattle.tables.specs.Sheet.{object_entity}
use Rattle.transfers.specs.declared.Act.{Act}
use Rattle.transfers.specs.declared.Act.TheVariants.{Moves, OutOfRange, NotPermitted}
use Rattle.transfers.specs.declared.Transfer.{Transfer}

-- "A transfer is subject, object, mode"
abbrev pub transfer : ℕ → ℕ → ℕ → Transfer
transfer s o m = record { subject = s; object = o; mode = m }

-- "Transfers come as flat bytes, three each"
unfoldable pub flat_transfers : List ℕ → List Transfer
flat_transfers [] = []
flat_transfers (s ∷ []) = []
flat_transfers (s ∷ o ∷ []) = []
flat_transfers (s ∷ o ∷ m ∷ bytes) = transfer s o m ∷ flat_transfers bytes

-- the flat bytes of transfers
unfoldable pub flat_bytes : List Transfer → List ℕ
flat_bytes [] = []
flat_bytes (t ∷ ts) = t.subject ∷ t.object ∷ t.mode ∷ flat_bytes ts

-- "A transfer is subject, object, mode: 1 moves from object to subject, 2 the other way": the way of a transfer, from a to b
pub data Way (c : Counts) (t : Transfer) : ℕ → ℕ → Type 0 where
  to_subject : t.subject < c.subjects → t.object < c.objects → t.mode ≡ 1 → Way c t (object_entity c t.object) t.subject
  to_object : t.subject < c.subjects → t.object < c.objects → t.mode ≡ 2 → Way c t t.subject (object_entity c t.object)

-- "If the channel exists ..; If a number is out of range or the mode is not 1 or 2 ..; if there is no channel ..": what a transfer
-- comes to
pub data Comes (c : Counts) (ch : ℕ → ℕ → Type 0) (t : Transfer) : Act → Type 0 where
  moves : {a b : ℕ} → Way c t a b → ch a b → Comes c ch t (Moves a b)
  outside : ((a b : ℕ) → Way c t a b → ⊥) → Comes c ch t OutOfRange
  barred : {a b : ℕ} → Way c t a b → (ch a b → ⊥) → Comes c ch t NotPermitted
