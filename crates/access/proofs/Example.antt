-- The same sheet with nothing for role 2, which nobody has: the channels are the same.
use Prim.Native.Nat.{ℕ, zero, suc, ◌<◌}
use mathlib.Core.Path.{◌≡◌, refl, sym, subst}
use mathlib.Core.Logic.{◌≢◌}
use mathlib.Core.List.{[], ◌∷◌}
use native.Mathlib.Omega.{arith}
use lib.Dec.{lit<}
use Rattle.tables.specs.Sheet.{Sheet, sheet, counts, mode_byte}
use Rattle.theory.specs.Flow.{Flow}
use Rattle.theory.specs.Laws.{Contains}
use Rattle.access.specs.Channel.{Has, Assigned, Channel}
use Rattle.access.proofs.ACase.{small, by_role_0, by_role_1}
use Rattle.access.proofs.Channels.{carries, channel_without}

-- met by two roles of subject 0: what one reads the other writes
carried_by_law : Flow (Channel small) 2 3
carried_by_law = carries 0 0 1 0 1 (lit< tt) (lit< tt) (lit< tt) by_role_0 by_role_1

abbrev without : Sheet
without = sheet (counts 2 2 3) (1 ∷ 1 ∷ 0 ∷ 0 ∷ 0 ∷ 0 ∷ []) (1 ∷ 0 ∷ 0 ∷ 2 ∷ 0 ∷ 0 ∷ []) []

nobody_has_2 : (s : ℕ) → s < 2 → Assigned small s 2 → ⊥
nobody_has_2 zero h e = omega arith
nobody_has_2 (suc zero) h e = omega arith
nobody_has_2 (suc (suc s)) h e = omega arith

-- roles 0 and 1 hold the same in both sheets
same_bytes : (q o : ℕ) → q < 3 → o < 2 → q ≢ 2 → mode_byte small q o ≡ mode_byte without q o
same_bytes zero zero hq ho ne = refl
same_bytes zero (suc zero) hq ho ne = refl
same_bytes (suc zero) zero hq ho ne = refl
same_bytes (suc zero) (suc zero) hq ho ne = refl
same_bytes zero (suc (suc o)) hq ho ne = absurd (omega arith)
same_bytes (suc zero) (suc (suc o)) hq ho ne = absurd (omega arith)
same_bytes (suc (suc zero)) o hq ho ne = absurd (ne refl)
same_bytes (suc (suc (suc q))) o hq ho ne = absurd (omega arith)

-- met by role 2, which nobody has: each channel of the sheet is one also where role 2 holds nothing
kept : Contains (Channel without) (Channel small)
kept = channel_without 2 nobody_has_2 (λ q o m hq ho ne. subst (λ (b : ℕ). Has b m) (same_bytes q o hq ho ne))

-- met the other way round: where role 2 holds nothing, there is no channel that the sheet lacks
none_new : Contains (Channel small) (Channel without)
none_new = channel_without 2 nobody_has_2 (λ q o m hq ho ne. subst (λ (b : ℕ). Has b m) (sym (same_bytes q o hq ho ne)))
