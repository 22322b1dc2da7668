-- Laws of channels, over any assignment and whatever a role holds.
use Prim.Native.Nat.{ℕ, ◌-◌, ◌<◌}
use mathlib.Core.Path.{◌≡◌, refl, subst}
use mathlib.Core.Logic.{◌⊎◌, inl, inr, ◌≢◌}
use native.Mathlib.Decide.{ℕ_discrete}
use native.Mathlib.Omega.{arith}
use Rattle.tables.specs.declared.Counts.{Counts}
use Rattle.tables.specs.Sheet.{Lent, entities, object_entity, sheet_of, sheet_in}
use Rattle.theory.specs.Flow.{Flow, here, step}
use Rattle.access.specs.Channel.{TwoSided, read, write, Grants, May, ChannelOf, reads, writes, Channel}
use Rattle.theory.specs.Laws.{Contains, Inside}

-- "No other pairs": both are entities
pub sides_inside : (c : Counts) {x y : ℕ} → TwoSided c x y → (x < entities c) × (y < entities c)
sides_inside c (inl p) = (omega (arith, p), p.2)
sides_inside c (inr p) = (p.2, omega (arith, p))

module _ {c : Counts} {assigned : ℕ → ℕ → Type 0} {held : ℕ → ℕ → ℕ → Type 0} where
  -- channels join subjects and objects only
  pub two_sided : {x y : ℕ} → ChannelOf c assigned held x y → TwoSided c x y
  two_sided (reads o l e h m) = inr (h, omega arith, omega arith)
  two_sided (writes o l h e m) = inl (h, omega arith, omega arith)

  -- and entities below N only
  pub channel_inside : Inside (entities c) (ChannelOf c assigned held)
  channel_inside x y ch = sides_inside c (two_sided ch)

  -- "From subject to object: the same with write": a channel out of subject x is one that some role of x permits
  pub by_write : {x y : ℕ} → x < c.subjects → ChannelOf c assigned held x y → May c assigned held write x (y - c.subjects)
  by_write h (reads o l e k m) = absurd (omega arith)
  by_write {x} {y} h (writes o l k e m) =
      let f : o ≡ y - c.subjects = omega arith in
      subst (λ (p : ℕ). May c assigned held write x p) f m

  -- "some role assigned to the subject has read on the object": a channel into subject y is by such a role, on object x - S
  pub by_read : {x y : ℕ} → y < c.subjects → ChannelOf c assigned held x y → May c assigned held read y (x - c.subjects)
  by_read h (writes o l k e m) = absurd (omega arith)
  by_read {x} {y} h (reads o l e k m) =
      let f : o ≡ x - c.subjects = omega arith in
      subst (λ (p : ℕ). May c assigned held read y p) f m

  -- a subject that has a role reading o and another role writing p carries o to p
  pub carries : (s o p q r : ℕ) → s < c.subjects → o < c.objects → p < c.objects → Grants c assigned held read s o q → Grants c assigned held write s p r → Flow (ChannelOf c assigned held) (object_entity c o) (object_entity c p)
  carries s o p q r hs ho hp g w =
      step (step here (reads o ho refl hs (record { by = q; grants = g }))) (writes p hp hs refl (record { by = r; grants = w }))

-- ---- more assignments and more that is held: more channels
abbrev pub HoldsMore : Counts → (held held' : ℕ → ℕ → ℕ → Type 0) → ℕ → Type 0
HoldsMore c held held' wanted = (r o : ℕ) → r < c.roles → o < c.objects → held r o wanted → held' r o wanted

-- the same but on object p
abbrev pub HoldsMoreBut : ℕ → Counts → (held held' : ℕ → ℕ → ℕ → Type 0) → ℕ → Type 0
HoldsMoreBut p c held held' wanted = (r o : ℕ) → r < c.roles → o < c.objects → o ≢ p → held r o wanted → held' r o wanted

module _ {c : Counts} {assigned assigned' : ℕ → ℕ → Type 0} {held held' : ℕ → ℕ → ℕ → Type 0} (more : (s r : ℕ) → s < c.subjects → r < c.roles → assigned s r → assigned' s r) where
  may_more : {wanted s o : ℕ} → ((r : ℕ) → r < c.roles → held r o wanted → held' r o wanted) → s < c.subjects → May c assigned held wanted s o → May c assigned' held' wanted s o
  may_more Holds-more hs m =
      let g = m.grants in
      record {
        by = m.by;
        grants = record { role = g.role; has_role = more _ _ hs g.role g.has_role; holds = Holds-more _ g.role g.holds };
      }

  pub channel_more : HoldsMore c held held' read → HoldsMore c held held' write → Contains (ChannelOf c assigned' held') (ChannelOf c assigned held)
  channel_more reads_more Writes-more x y (reads o l e h m) = reads o l e h (may_more (λ r k. reads_more r o k l) h m)
  channel_more reads_more Writes-more x y (writes o l h e m) = writes o l h e (may_more (λ r k. Writes-more r o k l) h m)

  -- but where object p is read: each channel is kept, or starts at p
  pub channel_but_from : (p : ℕ) → HoldsMoreBut p c held held' read → HoldsMore c held held' write →
      (x y : ℕ) → ChannelOf c assigned held x y → ChannelOf c assigned' held' x y ⊎ (x ≡ object_entity c p)
  channel_but_from p reads_more Writes-more x y (writes o l h e m) = inl (writes o l h e (may_more (λ r k. Writes-more r o k l) h m))
  channel_but_from p reads_more Writes-more x y (reads o l e h m) = go (ℕ_discrete o p)
    where
      go : Dec (o ≡ p) → ChannelOf c assigned' held' x y ⊎ (x ≡ object_entity c p)
      go (yes same) = inr (rw same at e)
      go (no other) = inl (reads o l e h (may_more (λ r k. reads_more r o k l other) h m))

  -- but where object p is written: each channel is kept, or ends at p
  pub channel_but_to : (p : ℕ) → HoldsMore c held held' read → HoldsMoreBut p c held held' write →
      (x y : ℕ) → ChannelOf c assigned held x y → ChannelOf c assigned' held' x y ⊎ (y ≡ object_entity c p)
  channel_but_to p reads_more Writes-more x y (reads o l e h m) = inl (reads o l e h (may_more (λ r k. reads_more r o k l) h m))
  channel_but_to p reads_more Writes-more x y (writes o l h e m) = go (ℕ_discrete o p)
    where
      go : Dec (o ≡ p) → ChannelOf c assigned' held' x y ⊎ (y ≡ object_entity c p)
      go (yes same) = inr (rw same at e)
      go (no other) = inl (writes o l h e (may_more (λ r k. Writes-more r o k l other) h m))

-- "A role assigned to nobody makes no channel": whatever it holds instead, each channel stays; so, taken both ways, the channels are the
-- same. Roles and objects are below their counts, since further on a byte of the table belongs to another role.
module _ {c : Counts} {assigned : ℕ → ℕ → Type 0} {held held' : ℕ → ℕ → ℕ → Type 0} (r : ℕ) (nobody : (s : ℕ) → s < c.subjects → assigned s r → ⊥)
    (others : (q o m : ℕ) → q < c.roles → o < c.objects → q ≢ r → held q o m → held' q o m) where
  may_without : {wanted s o : ℕ} → s < c.subjects → o < c.objects → May c assigned held wanted s o → May c assigned held' wanted s o
  may_without {wanted} {s} {o} hs ho m =
      let g = m.grants in
      let other : m.by ≢ r = λ e. nobody s hs (rw e at g.has_role) in
      record {
        by = m.by;
        grants = record { role = g.role; has_role = g.has_role; holds = others m.by o wanted g.role ho other g.holds };
      }

  -- "A role assigned to nobody makes no channel": where the others keep what they hold, each channel stays, whatever that one holds
  pub channel_without : Contains (ChannelOf c assigned held') (ChannelOf c assigned held)
  channel_without x y (reads o l e h m) = reads o l e h (may_without h l m)
  channel_without x y (writes o l h e m) = writes o l h e (may_without h l m)

-- the channels of a sheet join entities below N only
pub sheet_inside : (l : Lent) → Inside (entities l.counts) (Channel (sheet_in l))
unfolding sheet_of
sheet_inside l = channel_inside
