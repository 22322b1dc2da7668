-- Label, class, order and greatest secrecy and integrity, over any relation R on the entities below n. The flow of a sheet is one
-- such relation, the bytes of a flow table are another.
use Rattle.std.specs.Prelude.{ℕ, ◌+◌, ◌*◌, ◌≤◌, ◌<◌, ◌≡◌, List}
use Rattle.answers.specs.Rows.{Mark, Row, count}

-- "The label of x is the set of y with flow from y to x"
abbrev pub InLabel : (ℕ → ℕ → Type 0) → ℕ → ℕ → Type 0
InLabel R x y = R y x

-- "written as N bytes, 0 or 1"
abbrev pub Label : ℕ → (ℕ → ℕ → Type 0) → ℕ → List ℕ → Type 0
Label n R x row = Row n (λ y byte. Mark (InLabel R x y) byte) row

-- "label size": how many entities the label has
pub record LabelSize (n : ℕ) (R : ℕ → ℕ → Type 0) (x size : ℕ) : Type 0 where
  pub row : List ℕ
  pub label : Label n R x row
  pub counted : size ≡ count 1 row

-- "x's label is included in y's"
abbrev pub Included : ℕ → (ℕ → ℕ → Type 0) → ℕ → ℕ → Type 0
Included n R x y = (z : ℕ) → z < n → InLabel R x z → InLabel R y z

-- "Two entities are equivalent if each flows to the other"
pub record Equivalent (R : ℕ → ℕ → Type 0) (x y : ℕ) : Type 0 where
  pub there : R x y
  pub back : R y x

-- 000, the partial order of classes: all of x's class flow to all of y's
abbrev pub ClassBelow : ℕ → (ℕ → ℕ → Type 0) → ℕ → ℕ → Type 0
ClassBelow n R x y = (a b : ℕ) → a < n → b < n → Equivalent R x a → Equivalent R y b → R a b

-- "A class is named by its smallest member"
pub record ClassName (n : ℕ) (R : ℕ → ℕ → Type 0) (x name : ℕ) : Type 0 where
  pub below : name < n
  pub member : Equivalent R x name
  pub smallest : (z : ℕ) → z < n → Equivalent R x z → name ≤ z

-- how two entities compare
pub data Order : Type 0 where
  equal : Order
  below : Order
  above : Order
  incomparable : Order

-- "Two entities compare as equal (equivalent), below (only the first flows to the second), above (only the second flows to the
-- first) or incomparable"
pub data Compares (R : ℕ → ℕ → Type 0) (x y : ℕ) : Order → Type 0 where
  both : R x y → R y x → Compares R x y equal
  only_there : R x y → (R y x → ⊥) → Compares R x y below
  only_back : (R x y → ⊥) → R y x → Compares R x y above
  neither : (R x y → ⊥) → (R y x → ⊥) → Compares R x y incomparable

-- "Greatest secrecy: the entity flows to nothing but itself"
abbrev pub GreatestSecrecy : ℕ → (ℕ → ℕ → Type 0) → ℕ → Type 0
GreatestSecrecy n R x = (y : ℕ) → y < n → R x y → y ≡ x

-- "Greatest integrity: nothing but itself flows into it"
abbrev pub GreatestIntegrity : ℕ → (ℕ → ℕ → Type 0) → ℕ → Type 0
GreatestIntegrity n R x = (y : ℕ) → y < n → R y x → y ≡ x

-- "flags (1 greatest secrecy, 2 greatest integrity, summed)"
pub record Greatest (n : ℕ) (R : ℕ → ℕ → Type 0) (x flags : ℕ) : Type 0 where
  pub secrecy : ℕ
  pub integrity : ℕ
  pub secret : Mark (GreatestSecrecy n R x) secrecy
  pub integral : Mark (GreatestIntegrity n R x) integrity
  pub summed : flags ≡ secrecy + 2 * integrity
