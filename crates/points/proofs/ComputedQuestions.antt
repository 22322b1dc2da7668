-- Label, class name and flags of a sheet's flow, computed: what each line 81 of the output has.
use Prim.Native.Nat.{ℕ, ◌+◌, ◌*◌, ◌≤◌, ◌<◌}
use mathlib.Core.Path.{◌≡◌, refl, sym, ◌∙◌}
use mathlib.Core.Bool.{Bool, true, false, cond, not, ◌&&◌, false≢true}
use mathlib.Core.List.{List, [], ◌∷◌}
use native.Mathlib.Decide.{dec_le}
use native.Mathlib.Omega.{arith}
use borrow.Author.Tests.{eqb-true, eqb-false, eq-eqb, not-true, not-false}
use lib.Dec.{eqb}
use lib.ListN.{length, get_or}
use Rattle.answers.specs.Rows.{Mark, one, none, any_below}
use Rattle.tables.specs.Sheet.{Sheet, entities}
use Rattle.answers.proofs.Below.{held_by, none_of}
use Rattle.answers.proofs.Marks.{marked_yes, mark_of}
use Rattle.theory.specs.Flow.{Flow}
use Rattle.theory.specs.Order.{Label, Equivalent, ClassName, Greatest}
use Rattle.access.specs.Channel.{Channel}
use Rattle.points.proofs.Computed.{chainb}
use Rattle.points.proofs.ComputedSheet.{channelb, sheet_flows, sheet_flows_not}

-- 1 for a chain, 0 for none
bit_of : List ℕ → ℕ
bit_of [] = 0
bit_of (a ∷ l) = 1

-- the byte of the flow from x to y
unfoldable pub flowb : Sheet → ℕ → ℕ → ℕ
unfolding bit_of chainb channelb
flowb t x y = bit_of (chainb (channelb t) (entities t.counts) x y)

-- no test of a number below n holds
unfoldable pub noneb : ℕ → (ℕ → Bool) → Bool
unfolding any_below
noneb n test = not (any_below n test)

none_holds : (n : ℕ) (test : ℕ → Bool) → noneb n test ≡ true → (k : ℕ) → k < n → test k ≡ false
unfolding noneb
none_holds n test e k h = go (any_below n test) refl e
  where
    go : (b : Bool) → any_below n test ≡ b → not b ≡ true → test k ≡ false
    go true q f = absurd (false≢true f)
    go false q f = none_of test n q k h

and_first : (a b : Bool) → a && b ≡ true → (a ≡ true) × (b ≡ true)
and_first true b e = (refl, e)
and_first false b e = absurd (false≢true e)

-- some number below n other than x has the byte 1
unfoldable pub others : ℕ → ℕ → (ℕ → ℕ) → Bool
unfolding any_below
others n x byte = any_below n (λ y. eqb (byte y) 1 && not (eqb y x))

only_self : (n x : ℕ) (byte : ℕ → ℕ) {P : ℕ → Type 0} → ((y : ℕ) → y < n → Mark (P y) (byte y)) → Mark ((y : ℕ) → y < n → P y → y ≡ x) (cond (others n x byte) 0 1)
unfolding others
only_self n x byte {P} marks = go (any_below n (λ y. eqb (byte y) 1 && not (eqb y x))) refl
  where
    self : (y : ℕ) → byte y ≡ 1 → eqb (byte y) 1 && not (eqb y x) ≡ false → y ≡ x
    self y e f = eqb-true y x (not-false _ (rw (eq-eqb (byte y) 1 e) at f))

    go : (b : Bool) → any_below n (λ y. eqb (byte y) 1 && not (eqb y x)) ≡ b → Mark ((y : ℕ) → y < n → P y → y ≡ x) (cond b 0 1)
    go true e =
        let (y, h, p) = held_by _ n e in
        let q = and_first (eqb (byte y) 1) _ p in
        none refl (λ all. eqb-false y x (not-true _ q.1) (all y h (marked_yes (marks y h) (eqb-true _ _ q.0))))
    go false e = one refl (λ y h p. self y (mark_of (marks y h) p) (none_of _ n e y h))

module _ (t : Sheet) where
  abbrev n : ℕ
  n = entities t.counts

  abbrev R : ℕ → ℕ → Type 0
  R = Flow (Channel t)

  pub flow_mark : (x y : ℕ) → x < n → Mark (R x y) (flowb t x y)
  unfolding flowb bit_of
  flow_mark x y h = go (chainb (channelb t) n x y) refl
    where
      go : (l : List ℕ) → chainb (channelb t) n x y ≡ l → Mark (R x y) (bit_of l)
      go [] e = none refl (sheet_flows_not t h e)
      go (a ∷ l) e = one refl (sheet_flows t h e)

  module _ (x : ℕ) (hx : x < n) where
    -- the bytes of a row are those of the label
    pub label_is : (row : List ℕ) → length row ≡ n → noneb n (λ y. not (eqb (flowb t y x) (get_or row y 0))) ≡ true → Label n R x row
    label_is row size e =
        record {
          size = size;
          bytes = λ y h. let same : flowb t y x ≡ get_or row y 0 = eqb-true _ _ (not-false _ (none_holds n _ e y h)) in rw same at (flow_mark y x h);
        }

    -- each flows to the other, and nothing smaller does so
    unfoldable pub together : ℕ → Bool
    unfolding flowb
    together z = eqb (flowb t x z) 1 && eqb (flowb t z x) 1

    together_of : (z : ℕ) → z < n → Equivalent R x z → together z ≡ true
    unfolding together
    together_of z h e = rw (mark_of (flow_mark x z hx) e.there, mark_of (flow_mark z x h) e.back)

    pub class_is : (name : ℕ) → name < n → together name ≡ true → noneb name together ≡ true → ClassName n R x name
    unfolding together
    class_is name h member least =
        let p = and_first (eqb (flowb t x name) 1) _ member in
        record {
          below = h;
          member = record { there = marked_yes (flow_mark x name hx) (eqb-true _ _ p.0); back = marked_yes (flow_mark name x h) (eqb-true _ _ p.1) };
          smallest = λ z hz e. not_below z hz e (dec_le name z);
        }
      where
        not_below : (z : ℕ) → z < n → Equivalent R x z → Dec (name ≤ z) → name ≤ z
        not_below z hz e (yes g) = g
        not_below z hz e (no g) = absurd (false≢true (sym (none_holds name together least z (omega arith)) ∙ together_of z hz e))

    -- the flags: nothing else is flowed to, and nothing else flows in
    unfoldable pub flags : ℕ
    unfolding others flowb
    flags = cond (others n x (flowb t x)) 0 1 + 2 * cond (others n x (λ y. flowb t y x)) 0 1

    pub greatest_is : Greatest n R x flags
    unfolding flags
    greatest_is =
        record {
          secrecy = cond (others n x (flowb t x)) 0 1;
          integrity = cond (others n x (λ y. flowb t y x)) 0 1;
          secret = only_self n x (flowb t x) (λ y _. flow_mark x y hx);
          integral = only_self n x (λ y. flowb t y x) (λ y h. flow_mark y x h);
          summed = refl;
        }
