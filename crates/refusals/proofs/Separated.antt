-- 8 and then the first faulty pair, return by return.
use mathlib.Core.Path.{◌≡◌, sym, ◌∙◌}
use mathlib.Core.Logic.{◌≢◌}
use mathlib.Core.List.{List}
use Prim.Native.Nat.{ℕ, ◌≤◌, ◌<◌}
use borrow.Author.Tests.{lt-ltb, le-ltb}
use Rattle.answers.specs.Sizes.{most_separations}
use Rattle.answers.specs.Call.{first_refusal, ◌then◌, each_below}
use Rattle.tables.specs.Refusals.{pair_refusals, separation_refusals}
use Rattle.tables.proofs.Accepted.{pair_numbered}
use Rattle.answers.proofs.Scans.{found, none}

-- 8, and then the first faulty pair
module _ (n count : ℕ) (separations : List ℕ) where
  pub too_many : most_separations < count → 8 ≡ first_refusal (separation_refusals n count separations)
  unfolding first_refusal separation_refusals ◌then◌
  too_many h = rw (lt-ltb _ _ h)

  by_pairs : count ≤ most_separations → first_refusal (separation_refusals n count separations) ≡ first_refusal (each_below count (pair_refusals n separations))
  unfolding first_refusal separation_refusals ◌then◌
  by_pairs h = rw (le-ltb _ _ h)

  pub faulty : (i m : ℕ) → count ≤ most_separations → i < count → first_refusal (each_below i (pair_refusals n separations)) ≡ 0 →
      m ≡ first_refusal (pair_refusals n separations i) → m ≢ 0 → m ≡ first_refusal (separation_refusals n count separations)
  faulty i m h l before e some =
      e ∙ sym (by_pairs h ∙ found (pair_refusals n separations) (pair_numbered n separations) count i l before (λ z. some (e ∙ z)))

  pub faultless : (i : ℕ) → count ≤ most_separations → i ≤ count → count ≤ i → first_refusal (each_below i (pair_refusals n separations)) ≡ 0 →
      0 ≡ first_refusal (separation_refusals n count separations)
  faultless i h l m e = sym (by_pairs h ∙ none (pair_refusals n separations) (pair_numbered n separations) count i l m e)
