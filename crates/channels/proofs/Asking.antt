-- Laws of asking a subject's list for a role that has a mode on an object.
use Rattle.std.proofs.Common.{◌≡◌, ℕ, ◌+◌, ◌*◌, ◌<◌, Bool, List, length, get_or, take, ◌∙◌, arith}
use borrow.Author.Tests.{eq-eqb, eqb-true}
use lib.Dec.{eqb}
use lib.Seq.{get_or-take}
use Rattle.answers.specs.Rows.{at}
use Rattle.answers.proofs.Products.{place_below}
use Rattle.tables.specs.Sheet.{Lent, sheet_of, sheet_in}
use Rattle.access.specs.Channel.{Has, May, Assigned, Plain}
use Rattle.channels.specs.Inner.{roles_below}
use Rattle.channels.proofs.Passing.{only, all}

-- a place of the used part of a table holds what the lent table holds there
at_used : (m n i j : ℕ) (table : List ℕ) → i < m → j < n → at (take (m * n) table) n i j ≡ at table n i j
at_used m n i j table h l = get_or-take (m * n) table (i * n + j) 0 (place_below i j m n (m * n) h l (omega arith))

-- whether subject s has a role
abbrev on : Lent → ℕ → ℕ → Bool
on l s r = eqb (at l.assignment l.counts.roles s r) 1

module _ (l : Lent) (s : ℕ) (roles : List ℕ) (listed : roles ≡ roles_below l s l.counts.roles) where
  -- each on the list is a role, which the subject has
  pub is_role : (k : ℕ) → k < length roles → get_or roles k 0 < l.counts.roles
  is_role k h =
      let below : k < length (roles_below l s l.counts.roles) = rw listed at h in
      rw listed (only (on l s) l.counts.roles k below).0

  has_role : (k : ℕ) → k < length roles → at l.assignment l.counts.roles s (get_or roles k 0) ≡ 1
  has_role k h =
      let below : k < length (roles_below l s l.counts.roles) = rw listed at h in
      rw listed (eqb-true _ _ (only (on l s) l.counts.roles k below).1)

  -- so one of them that has the mode permits it, and none other does
  module _ (wanted o : ℕ) (hs : s < l.counts.subjects) (ho : o < l.counts.objects) where
    pub permits : (k : ℕ) × (k < length roles) × Has (at l.permission l.counts.objects (get_or roles k 0) o) wanted → May l.counts (Assigned (sheet_in l)) (Plain (sheet_in l)) wanted s o
    unfolding sheet_of
    permits (k, h, holds) =
        record {
          by = get_or roles k 0;
          grants =
              record {
                role = is_role k h;
                has_role = at_used l.counts.subjects l.counts.roles s (get_or roles k 0) l.assignment hs (is_role k h) ∙ has_role k h;
                holds = rw (at_used l.counts.roles l.counts.objects (get_or roles k 0) o l.permission (is_role k h) ho) holds;
              };
        }

    pub permitted : May l.counts (Assigned (sheet_in l)) (Plain (sheet_in l)) wanted s o → (k : ℕ) × (k < length roles) × Has (at l.permission l.counts.objects (get_or roles k 0) o) wanted
    unfolding sheet_of
    permitted m =
        let g = m.grants in
        let assigned : at l.assignment l.counts.roles s m.by ≡ 1 = rw (at_used l.counts.subjects l.counts.roles s m.by l.assignment hs g.role) at g.has_role in
        let (k, h, e) = all (on l s) l.counts.roles m.by g.role (eq-eqb _ _ assigned) in
        rw listed (k, h, rw (e, ← at_used l.counts.roles l.counts.objects m.by o l.permission g.role ho) g.holds)
