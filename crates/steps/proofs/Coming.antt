-- What a transfer comes to, return by return, and that its act finds its marks.
use Rattle.std.proofs.Common.{◌≡◌, refl, ℕ, ◌<◌, ◌≤◌, ◌⊎◌, List, arith}
use Rattle.tables.specs.declared.Counts.{Counts}
use Rattle.tables.specs.Sheet.{entities}
use Rattle.transfers.specs.declared.Act.{Act}
use Rattle.transfers.specs.declared.Act.TheVariants.{Moves, OutOfRange, NotPermitted}
use Rattle.transfers.specs.declared.Transfer.{Transfer}
use Rattle.transfers.specs.Acts.{acted}
use Rattle.transfers.specs.Transfers.{Way, to_subject, to_object, Comes, moves, outside, barred}
use Rattle.steps.specs.Inner.{Tried, has_channel, lacks_channel, MovesWithin, between, no_number, no_channel}
use Rattle.transfers.proofs.Acting.{way_ends}

module _ {c : Counts} {ch : ℕ → ℕ → Type 0} {t : Transfer} where
  -- a number or the mode is out of range
  pub outside_numbers : (c.subjects ≤ t.subject) ⊎ ((t.subject < c.subjects) × (c.objects ≤ t.object)) → Comes c ch t OutOfRange
  outside_numbers h = outside no_way
    where
      no_way : (a b : ℕ) → Way c t a b → ⊥
      no_way a b (to_subject s o m) = omega arith
      no_way a b (to_object s o m) = omega arith

  pub outside_mode : (t.mode ≡ 1 → ⊥) → (t.mode ≡ 2 → ⊥) → Comes c ch t OutOfRange
  outside_mode no_read no_write = outside no_way
    where
      no_way : (a b : ℕ) → Way c t a b → ⊥
      no_way a b (to_subject s o m) = no_read m
      no_way a b (to_object s o m) = no_write m

  -- its way was tried
  pub way_comes : {a b : ℕ} {act : Act} → Way c t a b → Tried ch a b act → Comes c ch t act
  way_comes w (has_channel h) = moves w h
  way_comes w (lacks_channel h) = barred w h

  -- a move goes between marks
  pub comes_within : {n : ℕ} {act : Act} → entities c ≤ n → Comes c ch t act → MovesWithin n act
  comes_within room (moves {a = a} {b = b} w h) = let e = way_ends w in between {a = a} {b = b} (omega arith) (omega arith)
  comes_within room (outside no_way) = no_number
  comes_within room (barred w h) = no_channel

-- an act that is no move changes no mark
pub still : (act : Act) {marks : List ℕ} → ((a b : ℕ) → act ≡ Moves a b → ⊥) → marks ≡ acted act marks
unfolding acted
still (Moves a b) no_move = absurd (no_move a b refl)
still OutOfRange no_move = refl
still NotPermitted no_move = refl
