-- A table of three entities, with channels 0 to 2 and 2 to 1, in front of a byte that the buffer held: the laws of tables at it.
use Prim.Native.Nat.{ℕ, zero, suc, ◌<◌}
use mathlib.Core.Path.{◌≡◌, refl}
use mathlib.Core.List.{List, [], ◌∷◌}
use native.Mathlib.Omega.{arith}
use lib.Dec.{lit<}
use Rattle.answers.specs.Rows.{at, Mark, one, none, Marked, Bytes, over}
use Rattle.rows.specs.Written.{FlowTable}
use Rattle.theory.proofs.Filled.{bytes_to, bytes_from}
use Rattle.rows.proofs.Relations.{table_agrees}
use Rattle.theory.specs.Laws.{Contains, Inside}

data Hop : ℕ → ℕ → Type 0 where
  hop02 : Hop 0 2
  hop21 : Hop 2 1

inside : Inside 3 Hop
inside _ _ hop02 = (lit< tt, lit< tt)
inside _ _ hop21 = (lit< tt, lit< tt)

abbrev table : List ℕ
table = 0 ∷ 0 ∷ 1 ∷ 0 ∷ 0 ∷ 0 ∷ 0 ∷ 1 ∷ 0 ∷ []

abbrev buffer : List ℕ
buffer = 9 ∷ 9 ∷ 9 ∷ 9 ∷ 9 ∷ 9 ∷ 9 ∷ 9 ∷ 9 ∷ 7 ∷ []

-- the table's byte is 1 where there is a channel
byte : {a b : ℕ} → Hop a b → at table 3 a b ≡ 1
byte hop02 = refl
byte hop21 = refl

marks : (x y : ℕ) → x < 3 → y < 3 → Mark (Hop x y) (at table 3 x y)
marks zero zero h l = none refl (λ c. omega (arith, byte c))
marks zero (suc zero) h l = none refl (λ c. omega (arith, byte c))
marks zero (suc (suc zero)) h l = one refl hop02
marks zero (suc (suc (suc y))) h l = absurd (omega arith)
marks (suc zero) zero h l = none refl (λ c. omega (arith, byte c))
marks (suc zero) (suc zero) h l = none refl (λ c. omega (arith, byte c))
marks (suc zero) (suc (suc zero)) h l = none refl (λ c. omega (arith, byte c))
marks (suc zero) (suc (suc (suc y))) h l = absurd (omega arith)
marks (suc (suc zero)) zero h l = none refl (λ c. omega (arith, byte c))
marks (suc (suc zero)) (suc zero) h l = one refl hop21
marks (suc (suc zero)) (suc (suc zero)) h l = none refl (λ c. omega (arith, byte c))
marks (suc (suc zero)) (suc (suc (suc y))) h l = absurd (omega arith)
marks (suc (suc (suc x))) y h l = absurd (omega arith)

filled : Marked 3 Hop table
filled = record { size = refl; bytes = marks }

-- the pairs are the same, both ways
to : Contains Hop (Bytes 3 (over table buffer))
to = bytes_to filled buffer refl

back : Contains (Bytes 3 (over table buffer)) Hop
back = bytes_from filled buffer refl inside

-- so what is written for the table's bytes is written for the relation
rows : {before after : List ℕ} → FlowTable 3 (Bytes 3 (over table buffer)) before after → FlowTable 3 Hop before after
rows t = table_agrees to back t
