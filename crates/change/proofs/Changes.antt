-- A change that only adds only adds channels, and one that only takes away only removes.
use Prim.Native.Nat.{ℕ, ◌+◌, ◌*◌, ◌<◌}
use mathlib.Core.Path.{◌≡◌, ap}
use mathlib.Core.List.{List, []}
use native.Mathlib.Decide.{ℕ_discrete, dec_lt}
use native.Mathlib.Omega.{arith}
use lib.ListN.{length, get_or, set, take}
use lib.Seq.{set_out, get_or-set_same, get_or-set_other, take-set-lt}
use Rattle.tables.specs.declared.Counts.{Counts}
use Rattle.tables.specs.Sheet.{sheet, lent, Sheet, sheet_in, sheet_of, assigned_byte, mode_byte}
use Rattle.access.specs.Channel.{read, write, Has, Channel}
use Rattle.access.proofs.Channels.{channel_more}
use Rattle.change.specs.Change.{assignment_place, permission_place, with_assignment, with_permission, AssignmentAdds, PermissionAdds, AssignmentTakes, PermissionTakes}
use Rattle.theory.specs.Laws.{Contains}

-- what held of each byte holds after one is set, if the new one has it of the old
pub set_keeps : (P : ℕ → Type 0) (l : List ℕ) (i v : ℕ) → (P (get_or l i 0) → P v) → (k : ℕ) → P (get_or l k 0) → P (get_or (set l i v) k 0)
set_keeps P l i v new k p = go (ℕ_discrete k i) (dec_lt i (length l))
  where
    go : Dec (k ≡ i) → Dec (i < length l) → P (get_or (set l i v) k 0)
    go (yes e) (yes h) = rw (e, get_or-set_same l i v 0 h) (new (rw e at p))
    go (yes e) (no h) = rw (set_out l i v (omega arith)) p
    go (no e) d = rw (get_or-set_other l i k v 0 e) p

-- and the other way round
pub set_kept : (P : ℕ → Type 0) (l : List ℕ) (i v : ℕ) → (P v → P (get_or l i 0)) → (k : ℕ) → P (get_or (set l i v) k 0) → P (get_or l k 0)
set_kept P l i v old k p = go (ℕ_discrete k i) (dec_lt i (length l))
  where
    go : Dec (k ≡ i) → Dec (i < length l) → P (get_or l k 0)
    go (yes e) (yes h) = rw e (old (rw (e, get_or-set_same l i v 0 h) at p))
    go (yes e) (no h) = rw (set_out l i v (omega arith)) at p
    go (no e) d = rw (get_or-set_other l i k v 0 e) at p

module _ (t : Sheet) (s r value : ℕ) where
  -- "a change that only adds .. assignment": each channel of the sheet is one of the changed sheet
  pub assignment_adds : AssignmentAdds (assigned_byte t s r) value → Contains (Channel (with_assignment t s r value)) (Channel t)
  unfolding with_assignment
  assignment_adds adds =
      channel_more (λ a b _ _. set_keeps (λ byte. byte ≡ 1) t.assignment _ value adds (a * t.counts.roles + b)) (λ _ _ _ _ h. h) (λ _ _ _ _ h. h)

  -- "one that only takes away", of an assignment: each channel of the changed sheet was one of the sheet
  pub assignment_takes : AssignmentTakes (assigned_byte t s r) value → Contains (Channel t) (Channel (with_assignment t s r value))
  unfolding with_assignment
  assignment_takes takes =
      channel_more (λ a b _ _. set_kept (λ byte. byte ≡ 1) t.assignment _ value takes (a * t.counts.roles + b)) (λ _ _ _ _ h. h) (λ _ _ _ _ h. h)

module _ (t : Sheet) (r o mode : ℕ) where
  -- "a change that only adds permission": each channel of the sheet is one of the changed sheet
  pub permission_adds : PermissionAdds (mode_byte t r o) mode → Contains (Channel (with_permission t r o mode)) (Channel t)
  unfolding with_permission
  permission_adds adds =
      channel_more (λ _ _ _ _ h. h)
      (λ a b _ _. set_keeps (λ byte. Has byte read) t.permission _ mode adds.reading (a * t.counts.objects + b))
      (λ a b _ _. set_keeps (λ byte. Has byte write) t.permission _ mode adds.writing (a * t.counts.objects + b))

  -- "one that only takes away", of a permission: each channel of the changed sheet was one of the sheet
  pub permission_takes : PermissionTakes (mode_byte t r o) mode → Contains (Channel t) (Channel (with_permission t r o mode))
  unfolding with_permission
  permission_takes takes =
      channel_more (λ _ _ _ _ h. h)
      (λ a b _ _. set_kept (λ byte. Has byte read) t.permission _ mode takes.reading (a * t.counts.objects + b))
      (λ a b _ _. set_kept (λ byte. Has byte write) t.permission _ mode takes.writing (a * t.counts.objects + b))

-- ---- the sheet in changed tables is the changed sheet
module _ (c : Counts) (assignment permission : List ℕ) where
  -- "A change sets one assignment byte .. and no other": with the byte at s x R + r set, if it is in use, the sheet in the tables is so changed
  pub sheet_with_assignment : (s r value : ℕ) → assignment_place c s r < c.subjects * c.roles →
      sheet_in (lent c (set assignment (assignment_place c s r) value) permission) ≡ with_assignment (sheet_in (lent c assignment permission)) s r value
  unfolding sheet_of with_assignment
  sheet_with_assignment s r value h =
      ap (λ (a : List ℕ). sheet c a (take (c.roles * c.objects) permission) []) (take-set-lt _ assignment _ value h)

  -- "or one permission byte .. and no other": with the byte at r x O + o set, if it is in use, the sheet in the tables is so changed
  pub sheet_with_permission : (r o mode : ℕ) → permission_place c r o < c.roles * c.objects →
      sheet_in (lent c assignment (set permission (permission_place c r o) mode)) ≡ with_permission (sheet_in (lent c assignment permission)) r o mode
  unfolding sheet_of with_permission
  sheet_with_permission r o mode h =
      ap (λ (p : List ℕ). sheet c (take (c.subjects * c.roles) assignment) p []) (take-set-lt _ permission _ mode h)
