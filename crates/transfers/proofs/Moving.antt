-- Lists of acts whose every move goes along a relation, and what any acts keep of the marks.
use Prim.Native.Nat.{ℕ, zero, suc, ◌^◌, ◌<◌}
use native.Mathlib.Omega.{arith}
use mathlib.Core.Path.{◌≡◌, refl}
use mathlib.Core.List.{List, [], ◌∷◌}
use lib.ListN.{length, set, length-set}
use Rattle.transfers.specs.declared.Act.{Act}
use Rattle.transfers.specs.declared.Act.TheVariants.{Moves, OutOfRange, NotPermitted}
use Rattle.transfers.specs.Acts.{plus, acted, verdict_bytes, AllCome, none, next, Along}
use Rattle.transfers.specs.Demand3.{Marks32}

-- each act that moves does so along R
pub data AllMove (R : ℕ → ℕ → Type 0) : List Act → Type 0 where
  still : AllMove R []
  move : {a b : ℕ} {acts : List Act} → R a b → AllMove R acts → AllMove R (Moves a b ∷ acts)
  skip_outside : {acts : List Act} → AllMove R acts → AllMove R (OutOfRange ∷ acts)
  skip_barred : {acts : List Act} → AllMove R acts → AllMove R (NotPermitted ∷ acts)

module _ {T : Type 0} {comes : T → Act → Type 0} where
  pub come_move : {R : ℕ → ℕ → Type 0} {ts : List T} {acts : List Act} → Along comes R → AllCome comes ts acts → AllMove R acts
  come_move along none = still
  come_move along (next {t = t} {act = Moves a b} h rest) = move (along t a b h) (come_move along rest)
  come_move along (next {act = OutOfRange} h rest) = skip_outside (come_move along rest)
  come_move along (next {act = NotPermitted} h rest) = skip_barred (come_move along rest)

  -- one verdict byte for each transfer
  pub come_length : {ts : List T} {acts : List Act} → AllCome comes ts acts → length (verdict_bytes acts) ≡ length ts
  unfolding verdict_bytes
  come_length none = refl
  come_length (next h rest) = omega (arith, come_length rest)

pub acted_length : (act : Act) (marks : List ℕ) → length (acted act marks) ≡ length marks
unfolding acted
acted_length (Moves a b) marks = length-set marks b _
acted_length OutOfRange marks = refl
acted_length NotPermitted marks = refl

set_marks : (marks : List ℕ) (b v : ℕ) → Marks32 marks → v < 2 ^ 32 → Marks32 (set marks b v)
set_marks [] b v m h z = m z
set_marks (w ∷ marks) zero v m h zero = h
set_marks (w ∷ marks) zero v m h (suc z) = m (suc z)
set_marks (w ∷ marks) (suc b) v m h zero = m zero
set_marks (w ∷ marks) (suc b) v m h (suc z) = set_marks marks b v (λ y. m (suc y)) h z

pub acted_marks : (act : Act) (marks : List ℕ) → Marks32 marks → Marks32 (acted act marks)
unfolding acted plus
acted_marks (Moves a b) marks m = set_marks marks b _ m (omega arith)
acted_marks OutOfRange marks m = m
acted_marks NotPermitted marks m = m
