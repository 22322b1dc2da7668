-- The line of an entity by the answers on a sound flow table, and that each answer is a byte.
use Prim.Native.Nat.{ℕ, ◌≤◌, ◌<◌}
use mathlib.Core.Path.{refl, ap}
use mathlib.Core.List.{List, [], ◌∷◌}
use native.Mathlib.Omega.{arith}
use lib.ListN.{length}
use Rattle.answers.specs.declared.Told.{Told}
use Rattle.answers.specs.Sizes.{least_label}
use Rattle.answers.specs.Call.{told}
use Rattle.answers.specs.Rows.{Bytes}
use Rattle.answers.proofs.Marks.{mark_bit}
use Rattle.answers.proofs.Written.{count_within}
use Rattle.theory.specs.Order.{ClassName, Greatest, LabelSize}
use Rattle.labels.specs.Labelled.{Labelled}
use Rattle.labels.specs.Inner.{Asked, Labelling}
use Rattle.output.specs.Output.{EntityLine}
use Rattle.tables.specs.FlowTable.{SoundFlow}

module _ (n : ℕ) (table : List ℕ) (x : ℕ) (a : SoundFlow n table) (h : x < n) where
  -- it can be asked about
  pub asked : Asked n table x
  asked = record { accepted = a; below = h }

  pub labelling : (label : List ℕ) → least_label ≤ length label → Labelling n table x label
  labelling label room = record { asked = asked; label_room = room }

  pub counted : (before after : List ℕ) (size : ℕ) → Labelled n table x before (told 0 size, after) → LabelSize n (Bytes n table) x size
  counted before after size l = record { row = l.row; label = l.label; counted = ap (λ (p : Told × List ℕ). p.0.value) l.written }

  module _ (class flags size : ℕ) (c : ClassName n (Bytes n table) x class) (f : Greatest n (Bytes n table) x flags) (s : LabelSize n (Bytes n table) x size) where
    pub described : EntityLine n (Bytes n table) x (0x81 ∷ x ∷ class ∷ flags ∷ size ∷ [])
    described = record { class = class; flags = flags; size = size; named = c; greatest = f; label = s; bytes_are = refl }

    pub all_bytes : (class < 256) × (flags < 256) × (size < 256)
    all_bytes =
        let few = a.sized.few in (
          omega (arith, c.below),
          omega (arith, f.summed, mark_bit f.secret, mark_bit f.integral),
          omega (arith, s.counted, count_within 1 s.row, s.label.size),
        )
