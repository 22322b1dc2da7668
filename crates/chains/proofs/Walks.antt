-- The walk that writes a chain by the distances to y.
use Prim.Native.Nat.{ℕ, suc, ◌+◌, ◌≤◌, ◌<◌}
use mathlib.Core.Path.{◌≡◌, refl, sym, ap, ◌∙◌}
use mathlib.Core.List.{List, [], ◌∷◌, ◌++◌, append_assoc}
use native.Mathlib.Numerals.{add-one}
use native.Mathlib.Decide.{dec_le}
use native.Mathlib.Omega.{arith}
use lib.ListN.{length, get_or, set, drop, length-append}
use lib.Seq.{drop-cons, set_at}
use Rattle.std.specs.Prelude.{Option, Some, None, IsSome}
use Rattle.answers.specs.Rows.{over}
use Rattle.theory.specs.Chain.{Best}
use Rattle.theory.proofs.Chains.{Goes, ends, on, chain_goes, chain_flow, best_alone}
use Rattle.chains.specs.Shown.{ShownChain, shown}
use Rattle.chains.specs.Distance.{known, Smallest, Distance, Final, Distances}
use Rattle.chains.proofs.Distances.{one_long, one_distance, one_nearer, best_link}
use Rattle.theory.specs.Laws.{Inside}

-- ---- what the distances say
module _ {ch : ℕ → ℕ → Type 0} {n y : ℕ} {dist : List (Option ℕ)} (inner : Inside n ch) (t : Distances ch n y dist) where
  near : {k : ℕ} (x : ℕ) → x < n → known dist x ≡ Some k → (k < n) × Distance ch y k x
  near x l e = rw e at (t.final x l)

  known_by : {x k : ℕ} (d : Option ℕ) → Distance ch y k x → Final ch n y x d → d ≡ Some k
  known_by (Some j) p (h, d) = ap Some (one_distance d p)
  known_by None p none = absurd (none (chain_flow p.chain))

  -- a chain has fewer channels than there are entities
  pub few_channels : {k : ℕ} (x : ℕ) → x < n → known dist x ≡ Some k → k < n
  few_channels x l e = (near x l e).0

  -- only y is at 0
  pub at_end : (x : ℕ) → x < n → known dist x ≡ Some 0 → x ≡ y
  at_end x l e = let d = (near x l e).1 in one_long d.chain d.long

  -- ---- the smallest neighbour one nearer, of one that is not y
  module _ {v k : ℕ} (inside : v < n) (away : known dist v ≡ Some (suc k)) where
    Nearer : ℕ → Type 0
    Nearer w = ch v w × (known dist w ≡ Some k)

    here : Distance ch y (suc k) v
    here = (near v inside away).1

    nearer : (z : ℕ) → ch v z → Distance ch y k z → Nearer z
    unfolding Nearer
    nearer z c d = (c, known_by (known dist z) d (t.final z (inner v z c).1))

    -- there is one
    none_is_wrong : Smallest (λ w. ch v w × (known dist w ≡ Some k)) n None → ⊥
    unfolding Nearer
    none_is_wrong none = go (chain_goes here.chain)
      where
        go : Goes ch v y here.way → ⊥
        go (ends q f) = let e = ap length f in omega (arith, here.long)
        go (on z m f c u) =
            let long : length m ≡ suc k = let e = ap length f in omega (arith, here.long) in
            none z (inner v z c).1 (nearer z c (one_nearer here c u long))

    pub goes_on : (next : Option ℕ) → Smallest (λ w. ch v w × (known dist w ≡ Some k)) n next → IsSome next
    goes_on (Some w) s = refl
    goes_on None s = absurd (none_is_wrong s)

    pub walk_link : {w : ℕ} → Smallest (λ w. ch v w × (known dist w ≡ Some k)) n (Some w) → (l : List ℕ) → Best ch w y l → Best ch v y (v ∷ l)
    unfolding Nearer
    walk_link {w} (h, (c, e), least) l b = best_link c here (near w h e).1 (λ z q d. first z q d (dec_le w z)) b
      where
        first : (z : ℕ) → ch v z → Distance ch y k z → Dec (w ≤ z) → w ≤ z
        first z q d (yes p) = p
        first z q d (no p) = absurd (least z (omega arith) (nearer z q d))

-- ---- what is written
-- `at` stands at place i - 1, behind those that were passed; a chain from `at` on makes the chain from x
pub record Walking (ch : ℕ → ℕ → Type 0) (x y : ℕ) (before chain : List ℕ) (at i : ℕ) : Type 0 where
  pub passed : List ℕ
  pub long : length passed + 1 ≡ i
  pub written : chain ≡ (passed ++ (at ∷ [])) ++ drop i before
  pub onward : (s : List ℕ) → Best ch at y s → Best ch x y (passed ++ s)

write_next : (p before : List ℕ) (i a : ℕ) → length p ≡ i → i < length before → set (p ++ drop i before) i a ≡ (p ++ (a ∷ [])) ++ drop (i + 1) before
write_next p before i a e h =
    ap (λ (t : List ℕ). set (p ++ t) i a) (drop-cons before i 0 h)
    ∙ set_at p (get_or before i 0) (drop (suc i) before) a i e
    ∙ ap (λ (k : ℕ). p ++ (a ∷ drop k before)) (sym (add-one i))
    ∙ sym (append_assoc p (a ∷ []) (drop (i + 1) before))

module _ {ch : ℕ → ℕ → Type 0} {x y at i : ℕ} {before chain : List ℕ} (w : Walking ch x y before chain at i) where
  further : List ℕ
  further = w.passed ++ (at ∷ [])

  further_long : length further ≡ i
  unfolding further
  further_long = length-append w.passed (at ∷ []) ∙ w.long

  pub walking_next : {next : ℕ} → i < length before → ((s : List ℕ) → Best ch next y s → Best ch at y (at ∷ s)) →
      Walking ch x y before (set chain i next) next (i + 1)
  unfolding further
  walking_next {next} room h =
      record {
        passed = further;
        long = ap (λ (k : ℕ). k + 1) further_long;
        written = ap (λ (t : List ℕ). set t i next) w.written ∙ write_next further before i next further_long room;
        onward = λ s b. rw append_assoc (w.onward (at ∷ s) (h s b));
      }

  pub walking_last : at ≡ y → ShownChain ch x y before chain (Some i)
  unfolding further over
  walking_last e =
      shown further (w.onward (at ∷ []) (rw e best_alone)) (ap Some (sym further_long)) (w.written ∙ ap (λ (k : ℕ). further ++ drop k before) (sym further_long))
