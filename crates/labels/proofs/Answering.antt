-- What the answers rest on: each follows from what a search over the entities tells.
use Prim.Native.Nat.{ℕ, ◌≤◌, ◌<◌}
use mathlib.Core.Path.{◌≡◌, refl, sym}
use mathlib.Core.Bool.{Bool, true, false, not, false≢true}
use mathlib.Core.List.{List}
use native.Mathlib.Decide.{ℕ_discrete, dec_lt}
use native.Mathlib.Omega.{arith}
use Rattle.std.specs.Prelude.{Option, Some, None, MatchOption, ◌↔◌, IsTrue}
use Rattle.std.specs.Bool.{MatchBool}
use Rattle.std.specs.Option.{unwrap_or}
use Rattle.answers.specs.Rows.{Bytes}
use Rattle.answers.proofs.Marks.{marked_other}
use Rattle.theory.specs.Order.{Equivalent, ClassName, GreatestSecrecy, GreatestIntegrity}
use Rattle.labels.specs.Inner.{Asked, FlowsOn}
use Rattle.labels.proofs.Judged.{byte_marks}

-- ---- class: the first that is equivalent, and x itself where none below it is
module _ (n : ℕ) (table : List ℕ) (x : ℕ) (a : Asked n table x) where
  itself : Bytes n table x x
  itself = marked_other (byte_marks n table x x a.accepted a.below a.below) (a.accepted.diagonal x a.below)

  at_least : (z : ℕ) → ((k : ℕ) → 0 ≤ k → k < z → Equivalent (Bytes n table) x k → ⊥) → (k : ℕ) → Equivalent (Bytes n table) x k → z ≤ k
  at_least z before k q = go (dec_lt k z)
    where
      go : Dec (k < z) → z ≤ k
      go (yes l) = absurd (before k (omega arith) l q)
      go (no l) = omega arith

  pub named : (found : Option ℕ) → MatchOption found ((k : ℕ) → 0 ≤ k → k < x → Equivalent (Bytes n table) x k → ⊥)
      (λ i. (0 ≤ i) × (i < x) × Equivalent (Bytes n table) x i × ((k : ℕ) → 0 ≤ k → k < i → Equivalent (Bytes n table) x k → ⊥)) →
      ClassName n (Bytes n table) x (unwrap_or found x)
  named None before = record { below = a.below; member = record { there = itself; back = itself }; smallest = λ k _. at_least x before k }
  named (Some z) h = record { below = omega (arith, h.1, a.below); member = h.2; smallest = λ k _. at_least z h.3 k }

-- ---- greatest secrecy and integrity: no other entity flows so
only_itself : (n : ℕ) (table : List ℕ) (x y : ℕ) → (FlowsOn n table x y → ⊥) → Bytes n table x y → x ≡ y
only_itself n table x y never f = go (ℕ_discrete x y)
  where
    go : Dec (x ≡ y) → x ≡ y
    go (yes e) = e
    go (no ne) = absurd (never (record { flows = f; other = ne }))

module _ (n : ℕ) (table : List ℕ) (x : ℕ) where
  pub secret : (some : Bool) → MatchBool some ((k : ℕ) × (k < n) × FlowsOn n table x k) ((k : ℕ) → k < n → FlowsOn n table x k → ⊥) →
      IsTrue (not some) ↔ GreatestSecrecy n (Bytes n table) x
  secret true (k, h, l) = (λ e. absurd (false≢true e), λ g. absurd (l.other (sym (g k h l.flows))))
  secret false none = (λ _ y h f. sym (only_itself n table x y (none y h) f), λ _. refl)

  pub integral : (some : Bool) → MatchBool some ((k : ℕ) × (k < n) × FlowsOn n table k x) ((k : ℕ) → k < n → FlowsOn n table k x → ⊥) →
      IsTrue (not some) ↔ GreatestIntegrity n (Bytes n table) x
  integral true (k, h, l) = (λ e. absurd (false≢true e), λ g. absurd (l.other (g k h l.flows)))
  integral false none = (λ _ y h f. only_itself n table y x (none y h) f, λ _. refl)
