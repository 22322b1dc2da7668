-- What is promised of flow, classes and labels.
use Rattle.std.specs.Prelude.{ℕ, ◌<◌, ◌≡◌, List}
use Rattle.theory.specs.Flow.{Flow}
use Rattle.theory.specs.Order.{Label, LabelSize, Included, Equivalent, ClassBelow, ClassName, Order, Compares, Greatest}

-- "the reflexive, transitive closure of channel": a relation that has each channel
abbrev pub Contains : (R ch : ℕ → ℕ → Type 0) → Type 0
Contains R ch = (a b : ℕ) → ch a b → R a b

-- in which each is related to itself
abbrev pub Reflexive : (ℕ → ℕ → Type 0) → Type 0
Reflexive R = (x : ℕ) → R x x

-- and to what it is related to by way of another
abbrev pub Transitive : (ℕ → ℕ → Type 0) → Type 0
Transitive R = (x y z : ℕ) → R x y → R y z → R x z

-- channels join entities below n only
abbrev pub Inside : ℕ → (ℕ → ℕ → Type 0) → Type 0
Inside n ch = (a b : ℕ) → ch a b → (a < n) × (b < n)

-- 000, theorem 1: x flows to y; x's class is below or equal to y's; x's label is included in y's
pub record Theorem1 (n : ℕ) (ch : ℕ → ℕ → Type 0) (x y : ℕ) : Type 0 where
  pub to_class : Flow ch x y → ClassBelow n (Flow ch) x y
  pub to_label : ClassBelow n (Flow ch) x y → Included n (Flow ch) x y
  pub to_flow : Included n (Flow ch) x y → Flow ch x y

-- "A class is named by its smallest member": two entities have one name, a and b, exactly if each flows to the other
pub record OneClass (n : ℕ) (R : ℕ → ℕ → Type 0) (x y a b : ℕ) : Type 0 where
  pub one_name : Equivalent R x y → ClassName n R x a → ClassName n R y b → a ≡ b
  pub one_class : a ≡ b → ClassName n R x a → ClassName n R y b → Equivalent R x y

-- two relations are the same on the entities below n
pub record Agree (n : ℕ) (R R' : ℕ → ℕ → Type 0) : Type 0 where
  pub there : (x y : ℕ) → x < n → y < n → R x y → R' x y
  pub back : (x y : ℕ) → x < n → y < n → R' x y → R x y

-- "that these are the sheet's flows is promised of the table that filling wrote": each question has the answer under R' that it has under R
pub record EqualAnswers (n : ℕ) (R R' : ℕ → ℕ → Type 0) (x y : ℕ) : Type 0 where
  pub label : (row : List ℕ) → Label n R x row → Label n R' x row
  pub size : (k : ℕ) → LabelSize n R x k → LabelSize n R' x k
  pub class : (a : ℕ) → ClassName n R x a → ClassName n R' x a
  pub order : (o : Order) → Compares R x y o → Compares R' x y o
  pub greatest : (f : ℕ) → Greatest n R x f → Greatest n R' x f
