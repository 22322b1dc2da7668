-- One change never gives the effect 3: where a mode turns from reading to writing, the channels that go start at the object and those that
-- come end there, or the other way round; any other change only adds or only takes away.
use Prim.Native.Nat.{ℕ, ◌+◌, ◌*◌, ◌%◌, ◌<◌}
use mathlib.Core.Path.{◌≡◌, sym, ap, ◌∙◌}
use mathlib.Core.Logic.{◌⊎◌, inl, inr, ◌≢◌}
use native.Mathlib.Decide.{ℕ_discrete}
use native.Mathlib.Omega.{arith}
use lib.Arith.{digits_mod}
use lib.Seq.{get_or-set_other}
use Rattle.tables.specs.Sheet.{Sheet, object_entity, assigned_byte, mode_byte}
use Rattle.theory.specs.Flow.{Flow}
use Rattle.theory.specs.Effect.{Effect}
use Rattle.theory.proofs.Effects.{Turned, adding_loses_nothing, taking_gains_nothing, turning_never_both, turning_back_never_both}
use Rattle.access.specs.Channel.{read, write, Has, Channel}
use Rattle.access.proofs.Channels.{channel_but_from, channel_but_to}
use Rattle.access.proofs.Decided.{has_decided}
use Rattle.change.specs.Change.{with_assignment, with_permission}
use Rattle.change.proofs.Changes.{set_keeps, set_kept, assignment_adds, assignment_takes, permission_adds, permission_takes}

-- two places of a table in different columns are different places
other_place : (i k n : ℕ) {j l : ℕ} → j < n → l < n → j ≢ l → i * n + j ≢ k * n + l
other_place i k n {j} {l} hj hl other e = other (sym (digits_mod i hj) ∙ ap (λ (p : ℕ). p % n) e ∙ digits_mod k hl)

-- the effects of a change that only adds, or only takes away
not_3 : {e : ℕ} → ((e ≡ 0) ⊎ (e ≡ 1)) ⊎ ((e ≡ 0) ⊎ (e ≡ 2)) → e ≢ 3
not_3 (inl (inl a)) b = omega arith
not_3 (inl (inr a)) b = omega arith
not_3 (inr (inl a)) b = omega arith
not_3 (inr (inr a)) b = omega arith

module _ (t : Sheet) (r o mode : ℕ) (inside : o < t.counts.objects) where
  -- a byte of another object is as it was
  kept : (a b : ℕ) → b < t.counts.objects → b ≢ o → mode_byte (with_permission t r o mode) a b ≡ mode_byte t a b
  unfolding with_permission
  kept a b h other = get_or-set_other t.permission _ _ mode 0 (other_place a r t.counts.objects h inside other)

  turns : (Has mode read → Has (mode_byte t r o) read) → (Has (mode_byte t r o) write → Has mode write) →
      Turned (object_entity t.counts o) (Channel t) (Channel (with_permission t r o mode))
  unfolding with_permission
  turns takes-reading adds-writing =
      record {
        gone =
            channel_but_from (λ _ _ _ _ h. h) o
            (λ a b _ h other m. rw (kept a b h other) m)
            (λ a b _ _. set_keeps (λ byte. Has byte write) t.permission _ mode adds-writing (a * t.counts.objects + b));
        came =
            channel_but_to (λ _ _ _ _ h. h) o
            (λ a b _ _. set_kept (λ byte. Has byte read) t.permission _ mode takes-reading (a * t.counts.objects + b))
            (λ a b _ h other m. rw (kept a b h other) at m);
      }

  turns_back : (Has (mode_byte t r o) read → Has mode read) → (Has mode write → Has (mode_byte t r o) write) →
      Turned (object_entity t.counts o) (Channel (with_permission t r o mode)) (Channel t)
  unfolding with_permission
  turns_back adds-reading takes-writing =
      record {
        gone =
            channel_but_from (λ _ _ _ _ h. h) o
            (λ a b _ h other m. rw (kept a b h other) at m)
            (λ a b _ _. set_kept (λ byte. Has byte write) t.permission _ mode takes-writing (a * t.counts.objects + b));
        came =
            channel_but_to (λ _ _ _ _ h. h) o
            (λ a b _ _. set_keeps (λ byte. Has byte read) t.permission _ mode adds-reading (a * t.counts.objects + b))
            (λ a b _ h other m. rw (kept a b h other) m);
      }

  -- by what the old mode has
  pub permission_never_both : {n x e : ℕ} → x < n → Effect n (Flow (Channel t)) (Flow (Channel (with_permission t r o mode))) x e → e ≢ 3
  permission_never_both {n} {x} {e} hx change = go (has_decided (mode_byte t r o) read) (has_decided (mode_byte t r o) write)
    where
      go : Dec (Has (mode_byte t r o) read) → Dec (Has (mode_byte t r o) write) → e ≢ 3
      go (yes had-read) (yes had-write) =
          not_3 (inr (taking_gains_nothing hx change (permission_takes t r o mode (record { reading = λ _. had-read; writing = λ _. had-write }))))
      go (yes had-read) (no no_write) = turning_never_both change (turns (λ _. had-read) (λ m. absurd (no_write m)))
      go (no no_read) (yes had-write) = turning_back_never_both change (turns_back (λ m. absurd (no_read m)) (λ _. had-write))
      go (no no_read) (no no_write) =
          not_3
          (inl (adding_loses_nothing hx change (permission_adds t r o mode (record { reading = λ m. absurd (no_read m); writing = λ m. absurd (no_write m) }))))

-- an assignment is added, or taken away, or left
pub assignment_never_both : (t : Sheet) (s r value : ℕ) {n x e : ℕ} → x < n → Effect n (Flow (Channel t)) (Flow (Channel (with_assignment t s r value))) x e → e ≢ 3
assignment_never_both t s r value {n} {x} {e} hx change = go (ℕ_discrete (assigned_byte t s r) 1)
  where
    go : Dec (assigned_byte t s r ≡ 1) → e ≢ 3
    go (yes had) = not_3 (inr (taking_gains_nothing hx change (assignment_takes t s r value (λ _. had))))
    go (no lacked) = not_3 (inl (adding_loses_nothing hx change (assignment_adds t s r value (λ had. absurd (lacked had)))))
