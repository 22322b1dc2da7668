-- What is found is the judgement.
use Prim.Native.Nat.{ℕ}
use mathlib.Core.Path.{◌≡◌, refl}
use mathlib.Core.List.{List}
use lib.ListN.{length}
use Rattle.std.specs.Prelude.{Option, Some, IsSome}
use Rattle.tables.specs.Sheet.{from, to}
use Rattle.chains.specs.Shown.{ShownChain, shown, missing}
use Rattle.chains.specs.Distance.{Smallest}
use Rattle.separations.specs.Judgement.{Broken, FirstBroken, judged_found, Judgement, broken}

-- ---- what is found
module _ (ch : ℕ → ℕ → Type 0) (count : ℕ) (separations before : List ℕ) where
  first : {i : ℕ} → Smallest (λ i. Broken ch separations i) count (Some i) → FirstBroken ch count separations i
  first (below, flows, earlier) = record { below = below; broken = flows; before = earlier }

  -- a broken separation has a chain
  pub has_chain : {i : ℕ} {after : List ℕ} → Smallest (λ i. Broken ch separations i) count (Some i) → (size : Option ℕ) →
      ShownChain ch (from separations i) (to separations i) before after size → IsSome size
  has_chain (below, flows, earlier) size (shown l b e w) = rw e refl
  has_chain (below, flows, earlier) size (missing none e w) = absurd (none flows)

  pub found_one : {i k : ℕ} {after : List ℕ} (size : Option ℕ) → Smallest (λ i. Broken ch separations i) count (Some i) →
      ShownChain ch (from separations i) (to separations i) before after size → size ≡ Some k →
      Judgement ch count separations before (judged_found (Some (record { position = i; count = k })), after)
  found_one {i = i} {k = k} size s (shown l b e w) f = let same : k ≡ length l = cc in broken i l (first s) b (rw (same, w) refl)
  found_one size s (missing none e w) f = cc
