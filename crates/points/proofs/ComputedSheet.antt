-- The channels of a sheet, computed, and the questions on its flow: each is proved to be the relation.
use Prim.Native.Nat.{ℕ, ◌-◌, ◌≤◌, ◌<◌}
use mathlib.Core.Path.{◌≡◌, refl}
use mathlib.Core.Logic.{inl, inr}
use mathlib.Core.Bool.{Bool, true, false, cond, ◌&&◌, ◌||◌, false≢true, or-true}
use mathlib.Core.List.{List, [], ◌∷◌}
use native.Mathlib.Omega.{arith}
use borrow.Author.Tests.{ltb-true, ltb-false, eqb-true, eq-eqb, lt-ltb, le-ltb}
use lib.Dec.{ltb, eqb}
use Rattle.answers.specs.Rows.{any_below}
use Rattle.tables.specs.Sheet.{Sheet, entities, assigned_byte, mode_byte}
use Rattle.answers.proofs.Below.{found, held_by}
use Rattle.theory.specs.Flow.{Flow}
use Rattle.theory.specs.Chain.{Best}
use Rattle.theory.proofs.Flows.{flow_more}
use Rattle.theory.proofs.Chains.{best_agrees}
use Rattle.access.specs.Channel.{read, write, Has, Assigned, Plain, May, reads, writes, Channel}
use Rattle.access.proofs.Channels.{channel_inside, by_write, by_read}
use Rattle.points.proofs.Computed.{Tested, chainb, chain_is, flows, flows_not}
use Rattle.theory.specs.Laws.{Contains}

-- ---- channels
grantsb : ℕ → ℕ → ℕ → Bool
grantsb assigned mode wanted = eqb assigned 1 && (eqb mode wanted || eqb mode 3)

mayb : Sheet → ℕ → ℕ → ℕ → Bool
unfolding grantsb any_below
mayb t wanted s o = any_below t.counts.roles (λ r. grantsb (assigned_byte t s r) (mode_byte t r o) wanted)

unfoldable pub channelb : Sheet → ℕ → ℕ → Bool
unfolding mayb
channelb t x y =
    cond (ltb x t.counts.subjects)
    (cond (ltb y t.counts.subjects) false (mayb t write x (y - t.counts.subjects)))
    (cond (ltb y t.counts.subjects) (mayb t read y (x - t.counts.subjects)) false)

both : (a b : Bool) → a && b ≡ true → (a ≡ true) × (b ≡ true)
both true b e = (refl, e)
both false b e = absurd (false≢true e)

has_to : (m w : ℕ) (b : Bool) → eqb m w ≡ b → b || eqb m 3 ≡ true → Has m w
has_to m w true q e = inl (eqb-true m w q)
has_to m w false q e = inr (eqb-true m 3 e)

grants_to : (a m w : ℕ) → grantsb a m w ≡ true → (a ≡ 1) × Has m w
unfolding grantsb
grants_to a m w e =
    let p = both (eqb a 1) _ e in
    (eqb-true a 1 p.0, has_to m w (eqb m w) refl p.1)

grants_from : (a m w : ℕ) → a ≡ 1 → Has m w → grantsb a m w ≡ true
unfolding grantsb
grants_from a m w p (inl e) = rw (eq-eqb a 1 p, eq-eqb m w e)
grants_from a m w p (inr e) = rw (eq-eqb a 1 p, eq-eqb m 3 e, or-true)

module _ (t : Sheet) where
  abbrev MayOf : ℕ → ℕ → ℕ → Type 0
  MayOf = May t.counts (Assigned t) (Plain t)

  may_to : (w s o : ℕ) → mayb t w s o ≡ true → MayOf w s o
  unfolding mayb
  may_to w s o e =
      let (r, l, p) = held_by _ t.counts.roles e in
      let q = grants_to (assigned_byte t s r) (mode_byte t r o) w p in
      record { by = r; grants = record { role = l; has_role = q.0; holds = q.1 } }

  may_from : (w s o : ℕ) → MayOf w s o → mayb t w s o ≡ true
  unfolding mayb
  may_from w s o m =
      found _ t.counts.roles m.by m.grants.role (grants_from _ _ w m.grants.has_role m.grants.holds)

  abbrev Tests : ℕ → ℕ → Type 0
  Tests = Tested (channelb t) (entities t.counts)

  pub channel_of_test : Contains (Channel t) Tests
  unfolding channelb
  channel_of_test x y c = go (ltb x t.counts.subjects) refl (ltb y t.counts.subjects) refl c.holds
    where
      go : (a : Bool) → ltb x t.counts.subjects ≡ a → (b : Bool) → ltb y t.counts.subjects ≡ b →
          cond a (cond b false (mayb t write x (y - t.counts.subjects))) (cond b (mayb t read y (x - t.counts.subjects)) false) ≡ true → Channel t x y
      go true p true q e = absurd (false≢true e)
      go true p false q e =
          let low : x < t.counts.subjects = ltb-true _ _ p in
          let high : t.counts.subjects ≤ y = ltb-false _ _ q in
          let object : y - t.counts.subjects < t.counts.objects = omega (arith, c.target) in
          writes (y - t.counts.subjects) object low (omega arith) (may_to write x _ e)
      go false p true q e =
          let high : t.counts.subjects ≤ x = ltb-false _ _ p in
          let low : y < t.counts.subjects = ltb-true _ _ q in
          let object : x - t.counts.subjects < t.counts.objects = omega (arith, c.source) in
          reads (x - t.counts.subjects) object (omega arith) low (may_to read y _ e)
      go false p false q e = absurd (false≢true e)

  pub test_of_channel : Contains Tests (Channel t)
  unfolding channelb
  test_of_channel x y c = record { source = (channel_inside x y c).0; target = (channel_inside x y c).1; holds = go c }
    where
      go : Channel t x y → channelb t x y ≡ true
      go (reads o l e h m) =
          let high : t.counts.subjects ≤ x = omega arith in
          rw (le-ltb x _ high, lt-ltb y _ h) (may_from read y _ (by_read h c))
      go (writes o l h e m) =
          let high : t.counts.subjects ≤ y = omega arith in
          rw (lt-ltb x _ h, le-ltb y _ high) (may_from write x _ (by_write h c))

  -- ---- flow and chain
  module _ {x y : ℕ} (below : x < entities t.counts) where
    pub sheet_flows : {a : ℕ} {l : List ℕ} → chainb (channelb t) (entities t.counts) x y ≡ a ∷ l → Flow (Channel t) x y
    sheet_flows e = flow_more channel_of_test x y (flows below e)

    pub sheet_flows_not : chainb (channelb t) (entities t.counts) x y ≡ [] → Flow (Channel t) x y → ⊥
    sheet_flows_not e f = flows_not below e (flow_more test_of_channel x y f)

    pub sheet_chain : {a : ℕ} {l : List ℕ} → chainb (channelb t) (entities t.counts) x y ≡ a ∷ l → Best (Channel t) x y (a ∷ l)
    sheet_chain e = best_agrees channel_of_test test_of_channel (chain_is below e)
