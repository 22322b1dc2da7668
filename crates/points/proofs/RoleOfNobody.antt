-- "A role assigned to nobody makes no channel": role 3 of the printed sheet, which reads object 1 and writes object 2. Without what it
-- holds the channels are the same.
use Prim.Native.Nat.{ℕ, zero, suc, ◌<◌}
use mathlib.Core.Path.{◌≡◌, refl, sym, subst}
use mathlib.Core.Logic.{◌≢◌}
use mathlib.Core.List.{[], ◌∷◌}
use native.Mathlib.Omega.{arith}
use Rattle.tables.specs.Sheet.{Sheet, sheet, mode_byte}
use Rattle.access.specs.Channel.{Has, Assigned, Channel}
use Rattle.access.proofs.Channels.{channel_without}
use Rattle.text.proofs.AText.{worked}
use Rattle.theory.specs.Laws.{Contains}

without : Sheet
without = sheet worked.counts worked.assignment (2 ∷ 0 ∷ 0 ∷ 1 ∷ 2 ∷ 0 ∷ 0 ∷ 0 ∷ 1 ∷ 0 ∷ 0 ∷ 0 ∷ []) worked.separations

nobody : (s : ℕ) → s < 3 → Assigned worked s 3 → ⊥
unfolding worked
nobody zero h e = omega arith
nobody (suc zero) h e = omega arith
nobody (suc (suc zero)) h e = omega arith
nobody (suc (suc (suc s))) h e = omega arith

-- the other roles hold the same in both sheets
same_bytes : (r o : ℕ) → r < 4 → o < 3 → r ≢ 3 → mode_byte worked r o ≡ mode_byte without r o
unfolding worked without
same_bytes zero zero hr ho ne = refl
same_bytes zero (suc zero) hr ho ne = refl
same_bytes zero (suc (suc zero)) hr ho ne = refl
same_bytes zero (suc (suc (suc o))) hr ho ne = absurd (omega arith)
same_bytes (suc zero) zero hr ho ne = refl
same_bytes (suc zero) (suc zero) hr ho ne = refl
same_bytes (suc zero) (suc (suc zero)) hr ho ne = refl
same_bytes (suc zero) (suc (suc (suc o))) hr ho ne = absurd (omega arith)
same_bytes (suc (suc zero)) zero hr ho ne = refl
same_bytes (suc (suc zero)) (suc zero) hr ho ne = refl
same_bytes (suc (suc zero)) (suc (suc zero)) hr ho ne = refl
same_bytes (suc (suc zero)) (suc (suc (suc o))) hr ho ne = absurd (omega arith)
same_bytes (suc (suc (suc zero))) o hr ho ne = absurd (ne refl)
same_bytes (suc (suc (suc (suc r)))) o hr ho ne = absurd (omega arith)

-- "A role assigned to nobody makes no channel": each channel of the printed sheet is one also where role 3 holds nothing
each_kept : Contains (Channel without) (Channel worked)
unfolding worked without
each_kept = channel_without 3 nobody (λ r o m hr ho ne. subst (λ (b : ℕ). Has b m) (same_bytes r o hr ho ne))

-- the other way round: where role 3 holds nothing, there is no channel that the printed sheet lacks
none_new : Contains (Channel worked) (Channel without)
unfolding worked without
none_new = channel_without 3 nobody (λ r o m hr ho ne. subst (λ (b : ℕ). Has b m) (sym (same_bytes r o hr ho ne)))
