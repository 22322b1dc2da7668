-- Laws of refusals as code has them: each has a number of its own that is not 0, so a number or a `Told` tells which result it was; and
-- what the exit of a `?` answers.
use mathlib.Core.Path.{◌≡◌, refl, sym, ap, ◌∙◌}
use mathlib.Core.Logic.{◌≢◌}
use mathlib.Core.List.{List, [], ◌∷◌}
use Prim.Native.Nat.{ℕ}
use native.Mathlib.Omega.{arith}
use lib.Dec.{T}
use lib.ListN.{get_or}
use Rattle.std.specs.Prelude.{Result, Ok, Err}
use Rattle.std.specs.Result.{IsErrAnd}
use Rattle.std.proofs.lemmas.Result.{err_from_is_err_and}
use Rattle.answers.specs.declared.refused.Refused.{Refused as Why}
use Rattle.answers.specs.declared.refused.Refused.TheVariants.{ShortBuffer, NoBytes, NoFrame, Misplaced, Oversized, OutOfRange, NotAscending, TooMany, NoEnd, NoEntity, TableByte, FlowByte, NoChain, RaggedList, FullTally}
use Rattle.answers.specs.Call.{Refusal, ◌then◌, first_refusal}
use Rattle.answers.specs.Refused.{number, code, told_of}
use Rattle.answers.proofs.Calls.{numbered, by_first, by_second}

-- no refusal has the number 0
pub some_number : (why : Why) → number why ≢ 0
some_number ShortBuffer e = omega arith
some_number NoBytes e = omega arith
some_number NoFrame e = omega arith
some_number Misplaced e = omega arith
some_number Oversized e = omega arith
some_number OutOfRange e = omega arith
some_number NotAscending e = omega arith
some_number TooMany e = omega arith
some_number NoEnd e = omega arith
some_number NoEntity e = omega arith
some_number TableByte e = omega arith
some_number FlowByte e = omega arith
some_number NoChain e = omega arith
some_number RaggedList e = omega arith
some_number FullTally e = omega arith

-- the refusal of a number
of_number : ℕ → Why
of_number n =
    get_or
    (ShortBuffer ∷ ShortBuffer ∷ NoBytes ∷ NoFrame ∷ Misplaced ∷ Oversized ∷ OutOfRange ∷ NotAscending ∷ TooMany ∷ NoEnd ∷ NoEntity ∷ TableByte ∷ FlowByte ∷ NoChain ∷ NoChain ∷ RaggedList ∷ RaggedList ∷ FullTally ∷ [])
    n ShortBuffer

of_its_number : (why : Why) → of_number (number why) ≡ why
unfolding of_number
of_its_number ShortBuffer = refl
of_its_number NoBytes = refl
of_its_number NoFrame = refl
of_its_number Misplaced = refl
of_its_number Oversized = refl
of_its_number OutOfRange = refl
of_its_number NotAscending = refl
of_its_number TooMany = refl
of_its_number NoEnd = refl
of_its_number NoEntity = refl
of_its_number TableByte = refl
of_its_number FlowByte = refl
of_its_number NoChain = refl
of_its_number RaggedList = refl
of_its_number FullTally = refl

-- "no. | when": two refusals of one number are one
pub one_number : (a b : Why) → number a ≡ number b → a ≡ b
one_number a b e = sym (of_its_number a) ∙ ap of_number e ∙ of_its_number b

-- "no second answer": what C is told tells which result it was
pub one_code : (r s : Result (Unit {0}) Why) → code r ≡ code s → r ≡ s
one_code (Ok a) (Ok b) e = refl
one_code (Ok a) (Err b) e = absurd (some_number b (sym e))
one_code (Err a) (Ok b) e = absurd (some_number a e)
one_code (Err a) (Err b) e = ap Err (one_number a b e)

-- the same of an answer with a value
pub one_told : (r s : Result ℕ Why) → told_of r ≡ told_of s → r ≡ s
one_told (Ok v) (Ok w) e = ap (λ t. Ok t.value) e
one_told (Ok v) (Err b) e = absurd (some_number b (sym (ap (λ t. t.answer) e)))
one_told (Err a) (Ok w) e = absurd (some_number a (ap (λ t. t.answer) e))
one_told (Err a) (Err b) e = ap Err (one_number a b (ap (λ t. t.answer) e))

-- what the exit of a `?` answers: the error that the call before it answered
pub exit : {T : Type 0} (why : Why) (r : Result T Why) → IsErrAnd r (λ y. y ≡ why) → r ≡ Err why
exit why r e = let p = err_from_is_err_and r e in p.1 ∙ ap Err p.2

pub exit_code : {T : Type 0} (why : Why) (r : Result T Why) → IsErrAnd r (λ y. y ≡ why) → code r ≡ number why
exit_code why r e = ap code (exit why r e)

-- of two lists one after the other: where the first refuses, and where it passes
pub first_stops : (why : Why) (l m : List Refusal) → number why ≡ first_refusal l → number why ≡ first_refusal (l then m)
first_stops why l m e = e ∙ sym (by_first l m (λ none. some_number why (e ∙ none)))

pub first_passes : (l m : List Refusal) (n : ℕ) → T (numbered l) → 0 ≡ first_refusal l → n ≡ first_refusal m → n ≡ first_refusal (l then m)
first_passes l m n t none e = e ∙ sym (by_second l m t (sym none))
