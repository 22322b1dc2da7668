-- Each pair of entities of a sheet has a channel or none; so flow is decided, and the chain exists exactly if there is flow.
use Prim.Native.Nat.{ℕ, ◌-◌, ◌≤◌, ◌<◌}
use mathlib.Core.Logic.Dec
use mathlib.Core.Logic.{◌⊎◌, inl, inr}
use mathlib.Core.List.{List}
use native.Mathlib.Decide.{ℕ_discrete, dec_le, dec_lt, map_dec}
use native.Mathlib.Omega.{arith}
use Rattle.tables.specs.declared.Counts.{Counts}
use Rattle.tables.specs.Sheet.{Sheet, entities}
use Rattle.theory.specs.Flow.{Flow}
use Rattle.theory.specs.Chain.{Best}
use Rattle.theory.specs.Order.{Order, Compares}
use Rattle.theory.proofs.Orders.{some_order}
use Rattle.theory.proofs.Exists.{First, found, nothing, first_below, best_exists, best_flow, flow_decided}
use Rattle.access.specs.Channel.{read, write, Has, Grants, May, ChannelOf, reads, writes, Channel}
use Rattle.access.proofs.Channels.{channel_inside, by_write, by_read}

module _ {c : Counts} {assigned : ℕ → ℕ → Type 0} {held : ℕ → ℕ → ℕ → Type 0} (has-role? : (s r : ℕ) → Dec (assigned s r)) (holds? : (r o m : ℕ) → Dec (held r o m)) where
  grants_decided : (wanted s o r : ℕ) → Dec (Grants c assigned held wanted s o r)
  grants_decided wanted s o r =
      map_dec (λ p. record { role = p.0; has_role = p.1.0; holds = p.1.1 }) (λ g. (g.role, (g.has_role, g.holds)))
      (Dec.and (dec_lt r c.roles) (Dec.and (has-role? s r) (holds? r o wanted)))

  pub may_decided : (wanted s o : ℕ) → Dec (May c assigned held wanted s o)
  may_decided wanted s o = go (first_below (Grants c assigned held wanted s o) (grants_decided wanted s o) c.roles)
    where
      go : First (Grants c assigned held wanted s o) c.roles → Dec (May c assigned held wanted s o)
      go (found r h g least) = yes (record { by = r; grants = g })
      go (nothing none) = no (λ m. none m.by m.grants.role m.grants)

  -- the object of a channel that writes, and of one that reads
  module _ (x y : ℕ) where
    written : x < c.subjects → Dec ((c.subjects ≤ y) × (y < entities c)) → Dec (ChannelOf c assigned held x y)
    written hx (yes hy) =
        map_dec (λ m. let o : y - c.subjects < c.objects = omega arith in writes (y - c.subjects) o hx (omega arith) m) (by_write hx)
        (may_decided write x (y - c.subjects))
    written hx (no ne) = no (λ ch. ne (high ch))
      where
        high : ChannelOf c assigned held x y → (c.subjects ≤ y) × (y < entities c)
        high (reads o l e k m) = absurd (omega arith)
        high (writes o l k e m) = (omega arith, omega arith)

    readable : c.subjects ≤ x → Dec ((y < c.subjects) × (x < entities c)) → Dec (ChannelOf c assigned held x y)
    readable hx (yes hy) =
        map_dec (λ m. let o : x - c.subjects < c.objects = omega arith in reads (x - c.subjects) o (omega arith) hy.0 m) (by_read hy.0)
        (may_decided read y (x - c.subjects))
    readable hx (no ne) = no (λ ch. ne (low ch))
      where
        low : ChannelOf c assigned held x y → (y < c.subjects) × (x < entities c)
        low (reads o l e k m) = (k, omega arith)
        low (writes o l k e m) = absurd (omega arith)

    pub channel_decided : Dec (ChannelOf c assigned held x y)
    channel_decided = go (dec_lt x c.subjects)
      where
        go : Dec (x < c.subjects) → Dec (ChannelOf c assigned held x y)
        go (yes h) = written h (Dec.and (dec_le c.subjects y) (dec_lt y (entities c)))
        go (no h) = readable (omega arith) (Dec.and (dec_lt y c.subjects) (dec_lt x (entities c)))

-- ---- a sheet
either_decided : {P Q : Type 0} → Dec P → Dec Q → Dec (P ⊎ Q)
either_decided (yes p) d = yes (inl p)
either_decided (no n) (yes q) = yes (inr q)
either_decided {P} {Q} (no n) (no m) = no neither
  where
    neither : P ⊎ Q → ⊥
    neither (inl p) = n p
    neither (inr q) = m q

pub has_decided : (m wanted : ℕ) → Dec (Has m wanted)
has_decided m wanted = either_decided (ℕ_discrete _ _) (ℕ_discrete _ _)

module _ (t : Sheet) where
  pub sheet_channel_decided : (x y : ℕ) → Dec (Channel t x y)
  sheet_channel_decided = channel_decided (λ s r. ℕ_discrete _ _) (λ r o m. either_decided (ℕ_discrete _ _) (ℕ_discrete _ _))

  -- "Flow is the reflexive, transitive closure of channel": of each sheet it is decided, from an entity x below N to any y
  pub sheet_flow_decided : (x y : ℕ) → x < entities t.counts → Dec (Flow (Channel t) x y)
  sheet_flow_decided x y h = flow_decided channel_inside sheet_channel_decided y x h

  -- "the shortest is shown": where x flows to y in a sheet, there is such a chain
  pub sheet_chain_exists : {x y : ℕ} → Flow (Channel t) x y → (l : List ℕ) × Best (Channel t) x y l
  sheet_chain_exists {y = y} f = best_exists channel_inside sheet_channel_decided y f

  pub sheet_chain_flow : {x y : ℕ} {l : List ℕ} → Best (Channel t) x y l → Flow (Channel t) x y
  sheet_chain_flow {y = y} b = best_flow channel_inside sheet_channel_decided y b

  -- one of equal, below, above and incomparable holds
  pub sheet_order : (x y : ℕ) → x < entities t.counts → y < entities t.counts → (o : Order) × Compares (Flow (Channel t)) x y o
  sheet_order x y hx hy = some_order (sheet_flow_decided x y hx) (sheet_flow_decided y x hy)
