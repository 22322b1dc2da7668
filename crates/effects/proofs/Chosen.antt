-- A row that can be chosen lies within either table, and the three answers of `chosen_row`.
use Prim.Native.Nat.{ℕ, suc, ◌+◌, ◌*◌, ◌≤◌, ◌<◌}
use mathlib.Core.Path.{◌≡◌, refl}
use mathlib.Core.Bool.{Bool, true, false, ◌&&◌, false≢true}
use mathlib.Core.List.{List}
use native.Mathlib.Nat.{mul-le-mul}
use native.Mathlib.Omega.{arith}
use borrow.Author.Tests.{ltb-true, leb-true, lt-ltb, le-ltb, lt-leb, le-leb, eq-eqb, ne_eqb}
use lib.Dec.{ltb, leb}
use lib.ListN.{length}
use denote.Ref.{Bor}
use Rattle.answers.specs.Sizes.{most_entities, least_flow}
use Rattle.answers.specs.Part.{Part}
use Rattle.effects.specs.ChosenRow.{can_choose, ChosenRow}

both : (a b : Bool) → (a && b) ≡ true → (a ≡ true) × (b ≡ true)
both true b e = (refl, e)
both false b e = absurd (false≢true e)

-- ---- what is bad, one after the other
module _ (before after : List ℕ) (n choice x : ℕ) where
  -- "a bad choice": it is none of 0 and 1
  pub bad_choice : 2 ≤ choice → false ≡ can_choose before after n choice x
  unfolding can_choose
  bad_choice c = rw (le-ltb choice 2 c)

  module _ (c : choice < 2) where
    -- "a bad .. number": it is not below N
    pub bad_number : n ≤ x → false ≡ can_choose before after n choice x
    unfolding can_choose
    bad_number h = rw (lt-ltb choice 2 c, le-ltb x n h)

    module _ (h : x < n) where
      -- "a bad .. count": N is above 112
      pub bad_count : most_entities < n → false ≡ can_choose before after n choice x
      unfolding can_choose
      bad_count m = rw (lt-ltb choice 2 c, lt-ltb x n h, lt-leb n most_entities m)

      module _ (m : n ≤ most_entities) where
        -- "a bad .. length": the before table is too short
        pub bad_length : length before < least_flow → false ≡ can_choose before after n choice x
        unfolding can_choose
        bad_length b = rw (lt-ltb choice 2 c, lt-ltb x n h, le-leb n most_entities m, lt-leb least_flow (length before) b)

-- ---- a row that can be chosen ends within 12,544, and so within either table
pub record Fitting (before after : List ℕ) (n x : ℕ) : Type 0 where
  pub end : x * n + n ≤ least_flow
  pub in_before : least_flow ≤ length before
  pub in_after : least_flow ≤ length after

pub fitting : (before after : List ℕ) (n choice x : ℕ) → can_choose before after n choice x ≡ true → Fitting before after n x
unfolding can_choose
fitting before after n choice x e =
    let e₁ = both _ (leb least_flow (length after)) e in
    let e₂ = both _ (leb least_flow (length before)) e₁.0 in
    let e₃ = both _ (leb n most_entities) e₂.0 in
    let e₄ = both (ltb choice 2) (ltb x n) e₃.0 in
    let below = ltb-true x n e₄.1 in
    let small = leb-true n most_entities e₃.1 in
    let near : suc x ≤ 112 = omega arith in
    record { end = omega (arith, mul-le-mul near small); in_before = leb-true _ _ e₂.1; in_after = leb-true _ _ e₁.1 }

module _ (before after : Bor (List ℕ)) (n choice x : ℕ) {r : Bor (List ℕ)} where
  -- "from either the before table or the after table, as chosen by a 0 or 1": for 0 the row is a part of the before table
  pub row_before : can_choose before.now after.now n choice x ≡ true → choice ≡ 0 → Part before (x * n) (x * n + n) r → ChosenRow before after n choice x r
  unfolding ChosenRow
  row_before e z p = rw (e, eq-eqb choice 0 z) p

  -- and for 1 of the after table
  pub row_after : can_choose before.now after.now n choice x ≡ true → (choice ≡ 0 → ⊥) → Part after (x * n) (x * n + n) r → ChosenRow before after n choice x r
  unfolding ChosenRow
  row_after e z p = rw (e, ne_eqb choice 0 z) p

  -- "gives the empty part at the start of the before table"
  pub row_none : can_choose before.now after.now n choice x ≡ false → Part before 0 0 r → ChosenRow before after n choice x r
  unfolding ChosenRow
  row_none e p = rw e p
