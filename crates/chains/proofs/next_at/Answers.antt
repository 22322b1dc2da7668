-- `chains::next_at` meets its contract, by what `find` says of a range.
use Prim.Native.Nat.{ℕ, ◌<◌, ◌≤◌}
use mathlib.Core.Path.{◌≡◌}
use mathlib.Core.List.{List}
use native.Mathlib.Omega.{arith}
use Rattle.std.specs.Prelude.{Option, Some, None, MatchOption}
use Rattle.std.proofs.Common.{rules, tests}
use Rattle.std.proofs.lemmas.Iterator.{first_from_Range}
use Rattle.answers.specs.Rows.{Bytes, at}
use Rattle.chains.specs.Distance.{known, Smallest}
use Rattle.chains.proofs.next_at.Goals as goal

module _ (n : ℕ) (table : List ℕ) (v d : ℕ) (dist : List (Option ℕ)) where
  -- what is looked for, wherever w is
  abbrev Sought : ℕ → Type 0
  Sought w = (at table n v w ≡ 1) × (known dist w ≡ Some d)

  smallest : v < n → (r : Option ℕ) →
      MatchOption r ((k : ℕ) → 0 ≤ k → k < n → Sought k → ⊥) (λ i. (0 ≤ i) × (i < n) × Sought i × ((k : ℕ) → 0 ≤ k → k < i → Sought k → ⊥)) →
      Smallest (λ w. Bytes n table v w × (known dist w ≡ Some d)) n r
  smallest source (Some k) (_, inside, (byte, far), before) =
      (inside, (record { source = source; target = inside; byte = byte }, far), λ j l p. before j (omega arith) l (p.0.byte, p.1))
  smallest source None none = λ j l p. none j (omega arith) l (p.0.byte, p.1)

pub returns : goal.returns
returns c =
    let Q : ℕ → Type 0 = Sought c.args.channels.n c.args.channels.bytes.now c.args.v c.args.d c.args.dist.now in
    smallest _ _ _ _ _ c.requires.0 c.find.result
    (first_from_Range _ _ _ _ Q (λ w. Q w → ⊥) c.find.ensures.ran
    (λ x q k. search (rules, tests))
    (λ x q k. (search rules, λ p. search (rules, tests))))
