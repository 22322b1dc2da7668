-- Laws of label, class and order. Theorem 1 of document 000 is `theorem_1`.
use Prim.Native.Nat.{ℕ, ◌<◌}
use mathlib.Core.Path.{◌≡◌, refl, sym, ap, ◌∙◌}
use mathlib.Core.List.{List}
use native.Mathlib.Nat.{le_antisymm}
use Rattle.answers.specs.Rows.{one, count}
use Rattle.answers.proofs.Marks.{one_mark, mark_agrees, one_row}
use Rattle.theory.specs.Flow.{Flow}
use Rattle.theory.specs.Order.{InLabel, Label, LabelSize, Included, Equivalent, ClassBelow, ClassName, Order, equal, below, above, incomparable, Compares, both, only_there, only_back, neither, Greatest}
use Rattle.theory.specs.Laws.{Theorem1, Agree, EqualAnswers, Reflexive, Transitive, OneClass}
use Rattle.theory.proofs.Flows.{flow_reflexive, flow_transitive, flow_closed, flow_closed_back}

-- ---- any reflexive and transitive relation
module _ {R : ℕ → ℕ → Type 0} (same : Reflexive R) (through : Transitive R) where
  -- "Two entities are equivalent if each flows to the other": each is so to itself
  pub equivalent_self : (x : ℕ) → Equivalent R x x
  equivalent_self x = record { there = same x; back = same x }

  -- "Two entities are equivalent if each flows to the other": where x is so to y, y is to x
  pub equivalent_turned : {x y : ℕ} → Equivalent R x y → Equivalent R y x
  equivalent_turned e = record { there = e.back; back = e.there }

  -- "Two entities are equivalent if each flows to the other": where x is so to y, and y to z, x is to z
  pub equivalent_then : {x y z : ℕ} → Equivalent R x y → Equivalent R y z → Equivalent R x z
  equivalent_then e f = record { there = through _ _ _ e.there f.there; back = through _ _ _ f.back e.back }

  -- equivalent entities have the same flows
  pub flows_by_class : {x a y b : ℕ} → Equivalent R x a → Equivalent R y b → R x y → R a b
  flows_by_class e f r = through _ _ _ e.back (through _ _ _ r f.there)

  -- and the same labels
  pub labels_by_class : {x a : ℕ} → Equivalent R x a → (z : ℕ) → (InLabel R x z → InLabel R a z) × (InLabel R a z → InLabel R x z)
  labels_by_class e z = (λ r. through _ _ _ r e.there, λ r. through _ _ _ r e.back)

  module _ {n x y : ℕ} (hx : x < n) (hy : y < n) where
    pub class_of_flow : R x y → ClassBelow n R x y
    class_of_flow r a b _ _ e f = flows_by_class e f r

    pub flow_of_class : ClassBelow n R x y → R x y
    flow_of_class c = c x y hx hy (equivalent_self x) (equivalent_self y)

    pub label_of_flow : R x y → Included n R x y
    label_of_flow r z _ s = through _ _ _ s r

    pub flow_of_label : Included n R x y → R x y
    flow_of_label i = i x hx (same x)

  -- the order of classes is partial: classes below each other are one class
  pub class_antisymmetric : {n x y : ℕ} → x < n → y < n → ClassBelow n R x y → ClassBelow n R y x → Equivalent R x y
  class_antisymmetric hx hy c d = record { there = flow_of_class hx hy c; back = flow_of_class hy hx d }

  -- "the partial-order theory in source document 000": the class of each entity below n is below or equal to itself
  pub class_reflexive : {n x : ℕ} → x < n → ClassBelow n R x x
  class_reflexive hx = class_of_flow hx hx (same _)

  -- "the partial-order theory in source document 000": where x's class is below or equal to y's, and y's to z's, x's is to z's
  pub class_transitive : {n x y z : ℕ} → x < n → y < n → z < n → ClassBelow n R x y → ClassBelow n R y z → ClassBelow n R x z
  class_transitive hx hy hz c d = class_of_flow hx hz (through _ _ _ (flow_of_class hx hy c) (flow_of_class hy hz d))

  -- two entities that flow to each other have one class name
  pub class_named_once : {n x y a b : ℕ} → Equivalent R x y → ClassName n R x a → ClassName n R y b → a ≡ b
  class_named_once e p q =
      le_antisymm (p.smallest _ q.below (equivalent_then e q.member)) (q.smallest _ p.below (equivalent_then (equivalent_turned e) p.member))

  -- and two that have one class name flow to each other
  pub named_class : {n x y a : ℕ} → ClassName n R x a → ClassName n R y a → Equivalent R x y
  named_class p q = equivalent_then p.member (equivalent_turned q.member)

  -- "A class is named by its smallest member": two entities have one name exactly if each flows to the other
  pub one_name_one_class : (n x y a b : ℕ) → OneClass n R x y a b
  one_name_one_class n x y a b = record { one_name = class_named_once; one_class = λ e p q. named_class p (rw e q) }

-- ---- theorem 1 of document 000, for any channel relation
-- document 000, theorem 1: flow, order of classes and inclusion of labels say the same, for any channel relation
pub theorem_1 : (n : ℕ) (ch : ℕ → ℕ → Type 0) (x y : ℕ) → x < n → y < n → Theorem1 n ch x y
theorem_1 n ch x y hx hy = record {
  to_class = class_of_flow flow_reflexive flow_transitive hx hy;
  to_label = λ c. label_of_flow flow_reflexive flow_transitive hx hy (flow_of_class flow_reflexive flow_transitive hx hy c);
  to_flow = flow_of_label flow_reflexive flow_transitive hx hy;
}

-- ---- one answer to each question, for any relation
-- "The label of x is the set": there is one row of bytes for it
pub one_label : (n : ℕ) (R : ℕ → ℕ → Type 0) (x : ℕ) {k l : List ℕ} → Label n R x k → Label n R x l → k ≡ l
one_label n R x = one_row (λ _ _ _. one_mark)

module _ {n : ℕ} {R : ℕ → ℕ → Type 0} {x : ℕ} where
  pub one_size : {k l : ℕ} → LabelSize n R x k → LabelSize n R x l → k ≡ l
  one_size p q = p.counted ∙ ap (count 1) (one_label n R x p.label q.label) ∙ sym q.counted

  -- "A class is named by its smallest member": x's class has at most one name
  pub one_class : {a b : ℕ} → ClassName n R x a → ClassName n R x b → a ≡ b
  one_class p q = le_antisymm (p.smallest _ q.below q.member) (q.smallest _ p.below p.member)

  -- "flags (1 greatest secrecy, 2 greatest integrity, summed)": x has at most one such sum
  pub one_greatest : {a b : ℕ} → Greatest n R x a → Greatest n R x b → a ≡ b
  one_greatest p q = p.summed ∙ rw (one_mark p.secret q.secret, one_mark p.integral q.integral) (sym q.summed)

-- at most one of equal, below, above and incomparable
pub one_order : {R : ℕ → ℕ → Type 0} {x y : ℕ} {a b : Order} → Compares R x y a → Compares R x y b → a ≡ b
one_order (both p q) (both r s) = refl
one_order (both p q) (only_there r s) = absurd (s q)
one_order (both p q) (only_back r s) = absurd (r p)
one_order (both p q) (neither r s) = absurd (r p)
one_order (only_there p q) (both r s) = absurd (q s)
one_order (only_there p q) (only_there r s) = refl
one_order (only_there p q) (only_back r s) = absurd (r p)
one_order (only_there p q) (neither r s) = absurd (r p)
one_order (only_back p q) (both r s) = absurd (p r)
one_order (only_back p q) (only_there r s) = absurd (p r)
one_order (only_back p q) (only_back r s) = refl
one_order (only_back p q) (neither r s) = absurd (s q)
one_order (neither p q) (both r s) = absurd (p r)
one_order (neither p q) (only_there r s) = absurd (p r)
one_order (neither p q) (only_back r s) = absurd (q s)
one_order (neither p q) (neither r s) = refl

-- and at least one, where each of the two flows holds or does not
pub some_order : {R : ℕ → ℕ → Type 0} {x y : ℕ} → Dec (R x y) → Dec (R y x) → (o : Order) × Compares R x y o
some_order (yes p) (yes q) = (equal, both p q)
some_order (yes p) (no q) = (below, only_there p q)
some_order (no p) (yes q) = (above, only_back p q)
some_order (no p) (no q) = (incomparable, neither p q)

-- an isolated entity, with no channel out of it and none into it, has both
pub isolated : {n : ℕ} {ch : ℕ → ℕ → Type 0} {x : ℕ} → ((y : ℕ) → ch x y → ⊥) → ((y : ℕ) → ch y x → ⊥) → Greatest n (Flow ch) x 3
isolated {n} {ch} {x} out into =
    record {
      secrecy = 1;
      integrity = 1;
      secret = one refl (λ y _ f. flow_closed (λ z. z ≡ x) refl (λ a b e c. absurd (out b (rw e at c))) f);
      integral = one refl (λ y _ f. flow_closed_back (λ z. z ≡ x) refl (λ a b e c. absurd (into a (rw e at c))) f);
      summed = refl;
    }

-- ---- relations that agree on the entities below n give equal answers
pub agree_turned : {n : ℕ} {R R' : ℕ → ℕ → Type 0} → Agree n R R' → Agree n R' R
agree_turned g = record { there = g.back; back = g.there }

module _ {n : ℕ} {R R' : ℕ → ℕ → Type 0} (g : Agree n R R') {x : ℕ} (hx : x < n) where
  label_agrees : (row : List ℕ) → Label n R x row → Label n R' x row
  label_agrees row l =
      record { size = l.size; bytes = λ y h. mark_agrees (g.there y x h hx) (g.back y x h hx) (l.bytes y h) }

  equivalent_agrees : {z : ℕ} → z < n → Equivalent R x z → Equivalent R' x z
  equivalent_agrees hz e = record { there = g.there _ _ hx hz e.there; back = g.there _ _ hz hx e.back }

  equivalent_agrees_back : {z : ℕ} → z < n → Equivalent R' x z → Equivalent R x z
  equivalent_agrees_back hz e = record { there = g.back _ _ hx hz e.there; back = g.back _ _ hz hx e.back }

  class_agrees : (a : ℕ) → ClassName n R x a → ClassName n R' x a
  class_agrees a c =
      record {
        below = c.below;
        member = equivalent_agrees c.below c.member;
        smallest = λ z hz e. c.smallest z hz (equivalent_agrees_back hz e);
      }

  order_agrees : {y : ℕ} → y < n → {o : Order} → Compares R x y o → Compares R' x y o
  order_agrees hy (both p q) = both (g.there _ _ hx hy p) (g.there _ _ hy hx q)
  order_agrees hy (only_there p q) = only_there (g.there _ _ hx hy p) (λ r. q (g.back _ _ hy hx r))
  order_agrees hy (only_back p q) = only_back (λ r. p (g.back _ _ hx hy r)) (g.there _ _ hy hx q)
  order_agrees hy (neither p q) = neither (λ r. p (g.back _ _ hx hy r)) (λ r. q (g.back _ _ hy hx r))

  greatest_agrees : (f : ℕ) → Greatest n R x f → Greatest n R' x f
  greatest_agrees f m =
      record {
        secrecy = m.secrecy;
        integrity = m.integrity;
        secret = mark_agrees (λ s y hy r. s y hy (g.back _ _ hx hy r)) (λ s y hy r. s y hy (g.there _ _ hx hy r)) m.secret;
        integral = mark_agrees (λ s y hy r. s y hy (g.back _ _ hy hx r)) (λ s y hy r. s y hy (g.there _ _ hy hx r)) m.integral;
        summed = m.summed;
      }

  -- "Questions .. are defined by its bytes alone": where relations agree below n, so do label, size, class name, order and flags of x and y
  pub equal_answers : {y : ℕ} → y < n → EqualAnswers n R R' x y
  equal_answers hy =
      record {
        label = label_agrees;
        size = λ k s. record { row = s.row; label = label_agrees s.row s.label; counted = s.counted };
        class = class_agrees;
        order = λ o. order_agrees hy;
        greatest = greatest_agrees;
      }
