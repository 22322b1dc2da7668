-- Laws of channels by the sides of two entities, of the sheet in lent tables.
use Rattle.std.proofs.Common.{IsTrue, ◌↔◌, ◌≡◌, ◌<◌, ◌≤◌, ◌-◌, ℕ, Bool, true, false, arith, refl}
use mir.Val.{bool_byte}
use Rattle.answers.specs.Rows.{Mark, one, none}
use Rattle.tables.specs.Sheet.{Lent, entities, sheet_of, sheet_in}
use Rattle.access.specs.Channel.{read, write, May, Assigned, Plain, Channel, reads, writes}
use Rattle.access.proofs.Channels.{by_write, by_read}

module _ (l : Lent) (x y : ℕ) (test : Bool) where
  -- "From subject to object: the same with write"
  pub if_write : x < l.counts.subjects → l.counts.subjects ≤ y → y < entities l.counts →
      IsTrue test ↔ May l.counts (Assigned (sheet_in l)) (Plain (sheet_in l)) write x (y - l.counts.subjects) → IsTrue test ↔ Channel (sheet_in l) x y
  unfolding sheet_of
  if_write subject object inside may =
      (λ yes. writes (y - l.counts.subjects) (omega arith) subject (omega arith) (may.0 yes), λ ch. may.1 (by_write subject ch))

  -- "Channel from object to subject: some role assigned to the subject has read on the object"
  pub if_read : y < l.counts.subjects → l.counts.subjects ≤ x → x < entities l.counts →
      IsTrue test ↔ May l.counts (Assigned (sheet_in l)) (Plain (sheet_in l)) read y (x - l.counts.subjects) → IsTrue test ↔ Channel (sheet_in l) x y
  unfolding sheet_of
  if_read subject object inside may =
      (λ yes. reads (x - l.counts.subjects) (omega arith) (omega arith) subject (may.0 yes), λ ch. may.1 (by_read subject ch))

module _ (l : Lent) (x y : ℕ) where
  -- "No other pairs"
  pub not_subjects : x < l.counts.subjects → y < l.counts.subjects → IsTrue false ↔ Channel (sheet_in l) x y
  unfolding sheet_of
  not_subjects hx hy = (λ no. absurd (cc), go)
    where
      go : Channel (sheet_in l) x y → IsTrue false
      go (reads o h e k m) = absurd (omega arith)
      go (writes o h k e m) = absurd (omega arith)

  pub not_objects : l.counts.subjects ≤ x → l.counts.subjects ≤ y → IsTrue false ↔ Channel (sheet_in l) x y
  unfolding sheet_of
  not_objects hx hy = (λ no. absurd (cc), go)
    where
      go : Channel (sheet_in l) x y → IsTrue false
      go (reads o h e k m) = absurd (omega arith)
      go (writes o h k e m) = absurd (omega arith)

-- the byte that says so
pub marked : {P : Type 0} {test : Bool} {byte : ℕ} → byte ≡ bool_byte test → IsTrue test ↔ P → Mark P byte
marked {test = true} e a = one e (a.0 refl)
marked {test = false} e a = none e (λ p. absurd (let both = a.1 p in cc))
