-- Inclusion of labels, by the bytes that calls of `label` left.
use Rattle.std.specs.Prelude.{ℕ, ◌<◌, ◌≡◌, List, get_or}

-- "x's label is included in y's", both "written as N bytes, 0 or 1": each byte of the first n that is 1 in x's buffer is 1 in y's
abbrev pub IncludedBytes : ℕ → List ℕ → List ℕ → Type 0
IncludedBytes n of-x of-y = (z : ℕ) → z < n → get_or of-x z 0 ≡ 1 → get_or of-y z 0 ≡ 1

-- "flow from x to y holds exactly if x's label is included in y's": `Holds` says that it holds
pub record FlowByLabels (n : ℕ) (Holds : Type 0) (of-x of-y : List ℕ) : Type 0 where
  pub included : Holds → IncludedBytes n of-x of-y
  pub holds : IncludedBytes n of-x of-y → Holds
