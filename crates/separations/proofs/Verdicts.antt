-- Demand 2, of separations: one is broken exactly if a finite chain leads there; the first broken one is named, or all hold.
use Prim.Native.Nat.{ℕ, ◌<◌}
use mathlib.Core.Path.{◌≡◌, sym, subst}
use mathlib.Core.Logic.{◌⊎◌, inl, inr}
use mathlib.Core.List.{List}
use native.Mathlib.Decide.{dec_lt}
use native.Mathlib.Omega.{arith}
use Rattle.tables.specs.Sheet.{Sheet, entities, from, to}
use Rattle.theory.specs.Flow.{Flow, here}
use Rattle.theory.specs.Chain.{Chain, Best}
use Rattle.theory.proofs.Chains.{chain_flow, flow_chain, one_best}
use Rattle.theory.proofs.Exists.{First, found, nothing, first_below}
use Rattle.access.specs.Channel.{Channel}
use Rattle.access.proofs.Decided.{sheet_flow_decided}
use Rattle.separations.specs.Judgement.{Broken, FirstBroken, AllHold}

module _ (ch : ℕ → ℕ → Type 0) (separations : List ℕ) where
  -- "one is broken exactly if such a chain exists": where it is broken, there is a chain
  pub broken_chain : (i : ℕ) → Broken ch separations i → (l : List ℕ) × Chain ch (from separations i) (to separations i) l
  broken_chain i b = flow_chain b

  -- "one is broken exactly if such a chain exists", the other way: any chain from its first entity to its second breaks separation i
  pub chain_broken : (i : ℕ) {l : List ℕ} → Chain ch (from separations i) (to separations i) l → Broken ch separations i
  chain_broken i c = chain_flow c

  -- "One from x to x is always broken"
  pub self_broken : (i : ℕ) → from separations i ≡ to separations i → Broken ch separations i
  self_broken i e = subst (Flow ch (from separations i)) e here

module _ {ch : ℕ → ℕ → Type 0} {separations : List ℕ} where
  -- "The first broken one": there is one at most
  pub one_first : {count i j : ℕ} → FirstBroken ch count separations i → FirstBroken ch count separations j → i ≡ j
  one_first {i = i} {j = j} p q = go (dec_lt i j) (dec_lt j i)
    where
      go : Dec (i < j) → Dec (j < i) → i ≡ j
      go (yes h) d = absurd (q.before i h p.broken)
      go (no h) (yes g) = absurd (p.before j g q.broken)
      go (no h) (no g) = omega arith

  -- "The first broken separation is named": where there is a first broken one, not all hold
  pub not_both : {count i : ℕ} → FirstBroken ch count separations i → AllHold ch count separations → ⊥
  not_both {i = i} p all = all i p.below p.broken

  -- and it has one chain
  pub one_finding : {count i j : ℕ} {l m : List ℕ} → FirstBroken ch count separations i → FirstBroken ch count separations j →
      Best ch (from separations i) (to separations i) l → Best ch (from separations j) (to separations j) m → (i ≡ j) × (l ≡ m)
  one_finding {m = m} p q b c =
      let e = one_first p q in
      (e, one_best b (subst (λ (k : ℕ). Best ch (from separations k) (to separations k) m) (sym e) c))

-- and where all entities are those of a sheet, one of the two is so
pub judged_one_way : (t : Sheet) (count : ℕ) (separations : List ℕ) → ((i : ℕ) → i < count → from separations i < entities t.counts) →
    ((i : ℕ) × FirstBroken (Channel t) count separations i) ⊎ AllHold (Channel t) count separations
judged_one_way t count separations below = go (first_below Judged decided count)
  where
    -- broken, of those that are in the list
    Judged : ℕ → Type 0
    Judged i = (i < count) × Broken (Channel t) separations i

    decided : (i : ℕ) → Dec (Judged i)
    decided i = by_cases (dec_lt i count)
      where
        by_cases : Dec (i < count) → Dec (Judged i)
        by_cases (yes h) = elim (sheet_flow_decided t (from separations i) (to separations i) (below i h)) [ yes f ↦ yes (h, f) | no f ↦ no (λ p. f p.1) ]
        by_cases (no h) = no (λ p. h p.0)

    go : First Judged count → ((i : ℕ) × FirstBroken (Channel t) count separations i) ⊎ AllHold (Channel t) count separations
    go (found i h p least) = inl (i, record { below = h; broken = p.1; before = λ j g b. least j g (omega arith, b) })
    go (nothing none) = inr (λ j h b. none j h (h, b))
