-- How every call answers: by the first refusal on its list whose test holds, or by what it is for.
use Rattle.std.specs.Prelude.{◌≡◌, ◌≢◌, Bool, cond, List, [], ◌∷◌, ◌++◌, ℕ, zero, suc}
use Rattle.std.specs.Borrow.{Bor, MutBor}
use denote.Triple.Both.{Both}
use Rattle.answers.specs.declared.Told.{Told}

-- "no. | when": an answer number, and the test under which a call answers it
pub record Refusal : Type 0 where
  pub number : ℕ
  pub test : Bool

-- number n, if the test holds
infix 20 ◌if◌
abbrev pub ◌if◌ : ℕ → Bool → Refusal
n if t = record { number = n; test = t }

-- "Order for every call": the number of the first refusal whose test holds; "0 | done" where none holds
unfoldable pub first_refusal : List Refusal → ℕ
first_refusal [] = 0
first_refusal (r ∷ rest) = cond r.test r.number (first_refusal rest)

-- one list after another
infixr 15 ◌then◌
unfoldable pub ◌then◌ : List Refusal → List Refusal → List Refusal
l then m = l ++ m

-- "the first faulty pair": the lists of the numbers below n, one after another
unfoldable pub each_below : ℕ → (ℕ → List Refusal) → List Refusal
each_below zero list = []
each_below (suc n) list = each_below n list then list n

-- "Each public call's contract determines the answer and every lent byte, number and tally afterwards": a result holds all of
-- these. "Every refusal changes no lent byte, number or tally. Every other number in its answer .. is 0": `refused n` is the
-- result of a refusal by n. `Done` says which results are right where nothing is refused.
pub record Outcome {R : Type 0} (refusals : List Refusal) (refused : ℕ → R) (Done : R → Type 0) (result : R) : Type 0 where
  pub refusal : first_refusal refusals ≢ 0 → result ≡ refused (first_refusal refusals)
  pub done : first_refusal refusals ≡ 0 → Done result

-- an answer number and its one value: "Every other number in its answer .. is 0; so is a number with nothing to tell"
abbrev pub told : ℕ → ℕ → Told
told n v = record { answer = n; value = v }

-- what a contract knows of what is lent to be read: the reference at entry and at exit
abbrev pub Loan : Type 0 → Type 0
Loan X = Both (Bor X) (Bor X)

-- the same of what is lent to be written
abbrev pub MutLoan : Type 0 → Type 0
MutLoan X = Both (MutBor X) (MutBor X)

-- a refusal of a call that writes one buffer
abbrev pub left : List ℕ → ℕ → ℕ × List ℕ
left before n = (n, before)

-- a refusal of a call that tells one value and writes one buffer
abbrev pub told_and_left : List ℕ → ℕ → Told × List ℕ
told_and_left before n = (told n 0, before)
