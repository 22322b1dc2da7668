-- A call on tables goes on exactly if the sheet in them is sound, all its separations are lent, and the buffers have their least lengths.
use mathlib.Core.Path.{◌≡◌, ap₂}
use mathlib.Core.List.{List}
use Prim.Native.Nat.{ℕ, ◌+◌, ◌*◌, ◌≤◌, ◌<◌}
use native.Mathlib.Omega.{arith}
use lib.ListN.{length, get_or, take}
use lib.Seq.{get_or-take, length-take-le}
use Rattle.answers.specs.Sizes.{most_entities, least_assignment, least_permission}
use Rattle.tables.specs.Sheet.{Lent, sheet_of, entities, from, to, pair_key, separation_key, Sound}
use Rattle.answers.proofs.Products.{product_within}
use Rattle.tables.specs.Refusals.{Sized, Listed}

-- the bytes of a used part are those of the buffer
part_bytes : (n : ℕ) (bytes : List ℕ) (most : ℕ) → n ≤ length bytes → ((k : ℕ) → k < n → get_or bytes k 0 ≤ most) →
    (k : ℕ) → k < length (take n bytes) → get_or (take n bytes) k 0 ≤ most
part_bytes n bytes most long each k h =
    let below : k < n = omega (arith, length-take-le n bytes long) in
    rw (get_or-take n bytes k 0 below) (each k below)

whole_bytes : (n : ℕ) (bytes : List ℕ) (most : ℕ) → n ≤ length bytes → ((k : ℕ) → k < length (take n bytes) → get_or (take n bytes) k 0 ≤ most) →
    (k : ℕ) → k < n → get_or bytes k 0 ≤ most
whole_bytes n bytes most long each k h =
    let within : k < length (take n bytes) = omega (arith, length-take-le n bytes long) in
    rw (get_or-take n bytes k 0 h) at (each k within)

-- the separations of a used part are those of the buffer
from_part : (count : ℕ) (separations : List ℕ) (i : ℕ) → i < count → from (take (2 * count) separations) i ≡ from separations i
from_part count separations i h = get_or-take (2 * count) separations (2 * i) 0 (omega arith)

to_part : (count : ℕ) (separations : List ℕ) (i : ℕ) → i < count → to (take (2 * count) separations) i ≡ to separations i
to_part count separations i h = get_or-take (2 * count) separations (2 * i + 1) 0 (omega arith)

key_part : (count : ℕ) (separations : List ℕ) (i : ℕ) → i < count → separation_key (take (2 * count) separations) i ≡ separation_key separations i
key_part count separations i h = ap₂ pair_key (from_part count separations i h) (to_part count separations i h)

module _ (l : Lent) (count : ℕ) (separations : List ℕ) where
  pub sound_of : Sized l → 2 * count ≤ length separations → Listed (entities l.counts) count separations → Sound (sheet_of l count separations)
  unfolding sheet_of
  sound_of s room p =
      let assigned-fit : l.counts.subjects * l.counts.roles ≤ length l.assignment = product_within _ _ 48 48 _ s.counts_fit.subjects s.counts_fit.roles s.assignment in
      let modes-fit : l.counts.roles * l.counts.objects ≤ length l.permission = product_within _ _ 48 64 _ s.counts_fit.roles s.counts_fit.objects s.permission in
      record {
        counts_fit = s.counts_fit;
        assignment_size = length-take-le _ l.assignment assigned-fit;
        assignment_bytes = part_bytes _ l.assignment 1 assigned-fit s.assigned;
        permission_size = length-take-le _ l.permission modes-fit;
        permission_bytes = part_bytes _ l.permission 3 modes-fit s.modes;
        count = count;
        separations_size = length-take-le (2 * count) separations room;
        separations_fit = p.few;
        separations_below = λ i h. (rw (from_part count separations i h) (p.below i h).0, rw (to_part count separations i h) (p.below i h).1);
        separations_ascend = λ i h.
            rw (key_part count separations i (omega arith), key_part count separations (i + 1) h) (p.ascend i h);
      }

  module _ (t : Sound (sheet_of l count separations)) where
    pub sized_of : least_assignment ≤ length l.assignment → least_permission ≤ length l.permission → Sized l
    unfolding sheet_of
    sized_of a p =
        record {
          counts_fit = t.counts_fit;
          assignment = a;
          permission = p;
          assigned = whole_bytes _ l.assignment 1 (product_within _ _ 48 48 _ t.counts_fit.subjects t.counts_fit.roles a) t.assignment_bytes;
          modes = whole_bytes _ l.permission 3 (product_within _ _ 48 64 _ t.counts_fit.roles t.counts_fit.objects p) t.permission_bytes;
        }

    pub listed_of : 2 * count ≤ length separations → Listed (entities l.counts) count separations
    unfolding sheet_of
    listed_of room =
        let same : t.count ≡ count = omega (arith, t.separations_size, length-take-le (2 * count) separations room) in
        record {
          few = rw same at t.separations_fit;
          below = λ i h.
              let b = t.separations_below i (rw same h) in
              (rw (from_part count separations i h) at b.0, rw (to_part count separations i h) at b.1);
          ascend = λ i h.
              rw (key_part count separations i (omega arith), key_part count separations (i + 1) h) at (t.separations_ascend i (rw same h));
        }

-- a sheet has at most 112 entities
pub entities_fit : (l : Lent) → Sized l → entities l.counts ≤ most_entities
entities_fit l s = omega (arith, s.counts_fit.subjects, s.counts_fit.objects)
