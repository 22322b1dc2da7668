-- A small sheet: its channels are those of the small network.
use Prim.Native.Nat.{ℕ, zero, suc, ◌<◌}
use mathlib.Core.Path.{◌≡◌, refl}
use mathlib.Core.Logic.{inl, inr}
use mathlib.Core.List.{◌∷◌}
use native.Mathlib.Omega.{arith}
use lib.Dec.{lit<}
use lib.ListN.{replicate}
use Rattle.tables.specs.Sheet.{Lent, lent, sheet_of, sheet_in}
use Rattle.theory.specs.Flow.{Flow}
use Rattle.theory.specs.Chain.{Best}
use Rattle.theory.proofs.Flows.{flow_more}
use Rattle.theory.proofs.Chains.{best_agrees}
use Rattle.access.specs.Channel.{Has, Grants, Assigned, Plain, Channel, reads, writes, read as reading, write as writing}
use Rattle.transfers.proofs.SmallNetwork.{chain, best, entity_1_stays}
use Rattle.transfers.proofs.Examples.{Hop, written, read, few}

-- subject 0 has role 0, which writes object 0, and subject 1 has role 1, which reads it
unfoldable pub sheet : Lent
sheet = lent few (1 ∷ 0 ∷ 0 ∷ 1 ∷ replicate 2300 9) (2 ∷ 1 ∷ replicate 3070 9)

abbrev Granted : ℕ → ℕ → ℕ → ℕ → Type 0
Granted = Grants (sheet_in sheet).counts (Assigned (sheet_in sheet)) (Plain (sheet_in sheet))

by_role_0 : Granted writing 0 0 0
unfolding sheet sheet_of
by_role_0 = record { role = lit< tt; has_role = refl; holds = inl refl }

by_role_1 : Granted reading 1 0 1
unfolding sheet sheet_of
by_role_1 = record { role = lit< tt; has_role = refl; holds = inl refl }

channel_of : (a b : ℕ) → Hop a b → Channel (sheet_in sheet) a b
unfolding sheet sheet_of
channel_of _ _ written = writes 0 (lit< tt) (lit< tt) refl (record { by = 0; grants = by_role_0 })
channel_of _ _ read = reads 0 (lit< tt) refl (lit< tt) (record { by = 1; grants = by_role_1 })

-- and it has no other channels
has_not : {m wanted : ℕ} → (m ≡ wanted → ⊥) → (m ≡ 3 → ⊥) → Has m wanted → ⊥
has_not p q (inl e) = p e
has_not p q (inr e) = q e

only_1_reads : (s r : ℕ) → s < 2 → Granted reading s 0 r → s ≡ 1
unfolding sheet sheet_of
only_1_reads (suc zero) r h g = refl
only_1_reads zero zero h g = absurd (has_not (λ e. omega arith) (λ e. omega arith) g.holds)
only_1_reads zero (suc zero) h g = absurd (omega (arith, g.has_role))
only_1_reads zero (suc (suc r)) h g = absurd (omega (arith, g.role))
only_1_reads (suc (suc s)) r h g = absurd (omega arith)

only_0_writes : (s r : ℕ) → s < 2 → Granted writing s 0 r → s ≡ 0
unfolding sheet sheet_of
only_0_writes zero r h g = refl
only_0_writes (suc zero) zero h g = absurd (omega (arith, g.has_role))
only_0_writes (suc zero) (suc zero) h g = absurd (has_not (λ e. omega arith) (λ e. omega arith) g.holds)
only_0_writes (suc zero) (suc (suc r)) h g = absurd (omega (arith, g.role))
only_0_writes (suc (suc s)) r h g = absurd (omega arith)

hop_of : (a b : ℕ) → Channel (sheet_in sheet) a b → Hop a b
unfolding sheet sheet_of
hop_of a b (reads zero l e h m) = rw (e, only_1_reads b m.by h m.grants) read
hop_of a b (reads (suc o) l e h m) = absurd (omega arith)
hop_of a b (writes zero l h e m) = rw (e, only_0_writes a m.by h m.grants) written
hop_of a b (writes (suc o) l h e m) = absurd (omega arith)

pub sheet_best : Best (Channel (sheet_in sheet)) 0 1 chain
sheet_best = best_agrees channel_of hop_of best

-- the label of 2 lacks 1
pub entity_1_not_to_2 : Flow (Channel (sheet_in sheet)) 1 2 → ⊥
entity_1_not_to_2 f = omega (arith, entity_1_stays (flow_more hop_of 1 2 f))
