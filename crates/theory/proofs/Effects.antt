-- Laws of effect: one effect for each entity, what it cannot be where channels only come or only go, and that it is never 3 where those
-- that go start and those that come end at one entity.
use Prim.Native.Nat.{ℕ, ◌+◌, ◌*◌, ◌<◌}
use mathlib.Core.Path.{◌≡◌, sym, ◌∙◌}
use mathlib.Core.Logic.{◌⊎◌, inl, inr, ◌≢◌}
use native.Mathlib.Omega.{arith}
use Rattle.answers.specs.Rows.{Mark, one, none}
use Rattle.answers.proofs.Marks.{one_mark, mark_agrees}
use Rattle.theory.specs.Flow.{Flow, here, step}
use Rattle.theory.specs.Effect.{Gained, Lost, Effect}
use Rattle.theory.specs.Laws.{Agree, Contains}
use Rattle.theory.proofs.Flows.{flow_more, flow_then}
use Rattle.theory.proofs.Orders.{agree_turned}

-- "the effect on each entity is a byte": there is at most one, between any two relations
pub one_effect : {n : ℕ} {R R' : ℕ → ℕ → Type 0} {x a b : ℕ} → Effect n R R' x a → Effect n R R' x b → a ≡ b
one_effect p q = p.summed ∙ rw (one_mark p.gained q.gained, one_mark p.lost q.lost) (sym q.summed)

-- ---- between relations that agree the effect is the same
gained_agrees : {n : ℕ} {R R' Q Q' : ℕ → ℕ → Type 0} {x : ℕ} → Agree n R Q → Agree n R' Q' → x < n → Gained n R R' x → Gained n Q Q' x
gained_agrees a b hx g =
    record {
      entity = g.entity;
      below = g.below;
      lacked = λ q. g.lacked (a.back _ _ g.below hx q);
      has = b.there _ _ g.below hx g.has;
    }

pub effect_agrees : {n : ℕ} {R R' Q Q' : ℕ → ℕ → Type 0} {x e : ℕ} → Agree n R Q → Agree n R' Q' → x < n → Effect n R R' x e → Effect n Q Q' x e
effect_agrees a b hx e =
    record {
      gain = e.gain;
      loss = e.loss;
      gained = mark_agrees (gained_agrees a b hx) (gained_agrees (agree_turned a) (agree_turned b) hx) e.gained;
      lost = mark_agrees (gained_agrees b a hx) (gained_agrees (agree_turned b) (agree_turned a) hx) e.lost;
      summed = e.summed;
    }

-- ---- what an effect cannot be
module _ {n : ℕ} {R R' : ℕ → ℕ → Type 0} {x e : ℕ} (effect : Effect n R R' x e) where
  only_gained : (Lost n R R' x → ⊥) → (e ≡ 0) ⊎ (e ≡ 1)
  only_gained kept = go effect.gained effect.lost effect.summed
    where
      go : {g l : ℕ} → Mark (Gained n R R' x) g → Mark (Lost n R R' x) l → e ≡ g + 2 * l → (e ≡ 0) ⊎ (e ≡ 1)
      go m (one f p) s = absurd (kept p)
      go (one f p) (none g q) s = inr (omega arith)
      go (none f p) (none g q) s = inl (omega arith)

  only_lost : (Gained n R R' x → ⊥) → (e ≡ 0) ⊎ (e ≡ 2)
  only_lost none_new = go effect.gained effect.lost effect.summed
    where
      go : {g l : ℕ} → Mark (Gained n R R' x) g → Mark (Lost n R R' x) l → e ≡ g + 2 * l → (e ≡ 0) ⊎ (e ≡ 2)
      go (one f p) m s = absurd (none_new p)
      go (none f p) (one g q) s = inr (omega arith)
      go (none f p) (none g q) s = inl (omega arith)

  not_both : (Gained n R R' x → Lost n R R' x → ⊥) → e ≢ 3
  not_both never = go effect.gained effect.lost effect.summed
    where
      go : {g l : ℕ} → Mark (Gained n R R' x) g → Mark (Lost n R R' x) l → e ≡ g + 2 * l → e ≢ 3
      go (one f p) (one g q) s three = never p q
      go (one f p) (none g q) s three = omega arith
      go (none f p) (one g q) s three = omega arith
      go (none f p) (none g q) s three = omega arith

-- ---- channels that only come, or only go
module _ {n x e : ℕ} {ch ch' : ℕ → ℕ → Type 0} (hx : x < n) (change : Effect n (Flow ch) (Flow ch') x e) where
  -- "a change that only adds .. never gives 2 or 3": where all channels stay, the effect on an entity below n is 0 or 1
  pub adding_loses_nothing : Contains ch' ch → (e ≡ 0) ⊎ (e ≡ 1)
  adding_loses_nothing more = only_gained change (λ g. g.lacked (flow_more more _ _ g.has))

  -- "one that only takes away never gives 1 or 3": where no channel is new, the effect on an entity below n is 0 or 2
  pub taking_gains_nothing : Contains ch ch' → (e ≡ 0) ⊎ (e ≡ 2)
  taking_gains_nothing fewer = only_lost change (λ g. g.lacked (flow_more fewer _ _ g.has))

-- ---- channels that turn round at v: those that go all start there, and those that come all end there
pub record Turned (v : ℕ) (ch ch' : ℕ → ℕ → Type 0) : Type 0 where
  pub gone : (a b : ℕ) → ch a b → ch' a b ⊎ (a ≡ v)
  pub came : (a b : ℕ) → ch' a b → ch a b ⊎ (b ≡ v)

module _ {v : ℕ} {ch ch' : ℕ → ℕ → Type 0} (turned : Turned v ch ch') where
  -- a chain that is broken led through v, and still leads to it
  still_or_to : {x y : ℕ} → Flow ch x y → Flow ch' x y ⊎ Flow ch' x v
  still_or_to here = inl here
  still_or_to {x} {y} (step {z} f c) = go (still_or_to f) (turned.gone z y c)
    where
      go : Flow ch' x z ⊎ Flow ch' x v → ch' z y ⊎ (z ≡ v) → Flow ch' x y ⊎ Flow ch' x v
      go (inr g) k = inr g
      go (inl g) (inl k) = inl (step g k)
      go (inl g) (inr same) = inr (rw same at g)

  -- a chain that is new leads on from v
  had_or_from : {x y : ℕ} → Flow ch' x y → Flow ch x y ⊎ Flow ch' v y
  had_or_from here = inl here
  had_or_from {x} {y} (step {z} f c) = go (had_or_from f) (turned.came z y c)
    where
      go : Flow ch x z ⊎ Flow ch' v z → ch z y ⊎ (y ≡ v) → Flow ch x y ⊎ Flow ch' v y
      go (inr g) k = inr (step g c)
      go (inl g) (inl k) = inl (step g k)
      go (inl g) (inr same) = inr (rw same here)

  gains_or_loses : {n x : ℕ} → Gained n (Flow ch) (Flow ch') x → Lost n (Flow ch) (Flow ch') x → ⊥
  gains_or_loses {n} {x} g l = go (had_or_from g.has) (still_or_to l.has)
    where
      go : Flow ch g.entity x ⊎ Flow ch' v x → Flow ch' l.entity x ⊎ Flow ch' l.entity v → ⊥
      go (inl f) k = g.lacked f
      go (inr f) (inl k) = l.lacked k
      go (inr f) (inr k) = l.lacked (flow_then k f)

-- then no label both gains and loses, nor if they turn the other way
module _ {v n x e : ℕ} {ch ch' : ℕ → ℕ → Type 0} (change : Effect n (Flow ch) (Flow ch') x e) where
  pub turning_never_both : Turned v ch ch' → e ≢ 3
  turning_never_both turned = not_both change (gains_or_loses turned)

  pub turning_back_never_both : Turned v ch' ch → e ≢ 3
  turning_back_never_both turned = not_both change (λ g l. gains_or_loses turned l g)
