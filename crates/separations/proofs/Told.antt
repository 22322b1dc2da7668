-- What C is told of a judgement.
use mathlib.Core.Path.{◌≡◌, refl, sym, ap}
use mathlib.Core.Logic.{◌≢◌}
use native.Mathlib.Omega.{arith}
use Rattle.std.specs.Prelude.{Option, Some, None, Result, Ok, Err}
use Rattle.answers.specs.declared.refused.Refused.{Refused as Why}
use Rattle.answers.specs.declared.refused.Refused.TheVariants.{ShortBuffer, NoBytes, NoFrame, Misplaced, Oversized, OutOfRange, NotAscending, TooMany, NoEnd, NoEntity, TableByte, FlowByte, NoChain, RaggedList, FullTally}
use Rattle.answers.specs.Refused.{number}
use Rattle.answers.proofs.Exits.{some_number, one_number}
use Rattle.separations.specs.declared.Breach.{Breach}
use Rattle.separations.specs.Judgement.{judged_of}

-- 14 is no refusal
pub no_refusal : (why : Why) → number why ≢ 14
no_refusal ShortBuffer e = omega arith
no_refusal NoBytes e = omega arith
no_refusal NoFrame e = omega arith
no_refusal Misplaced e = omega arith
no_refusal Oversized e = omega arith
no_refusal OutOfRange e = omega arith
no_refusal NotAscending e = omega arith
no_refusal TooMany e = omega arith
no_refusal NoEnd e = omega arith
no_refusal NoEntity e = omega arith
no_refusal TableByte e = omega arith
no_refusal FlowByte e = omega arith
no_refusal NoChain e = omega arith
no_refusal RaggedList e = omega arith
no_refusal FullTally e = omega arith

-- "no second answer": what C is told of a judgement tells which result it was
pub one_judged : (r s : Result (Option Breach) Why) → judged_of r ≡ judged_of s → r ≡ s
one_judged (Ok None) (Ok None) e = refl
one_judged (Ok None) (Ok (Some g)) e = absurd (let z = ap (λ t. t.answer) e in omega arith)
one_judged (Ok None) (Err b) e = absurd (some_number b (sym (ap (λ t. t.answer) e)))
one_judged (Ok (Some f)) (Ok None) e = absurd (let z = ap (λ t. t.answer) e in omega arith)
one_judged (Ok (Some f)) (Ok (Some g)) e = ap (λ j. Ok (Some (record { position = j.position; count = j.count }))) e
one_judged (Ok (Some f)) (Err b) e = absurd (no_refusal b (sym (ap (λ t. t.answer) e)))
one_judged (Err a) (Ok None) e = absurd (some_number a (ap (λ t. t.answer) e))
one_judged (Err a) (Ok (Some g)) e = absurd (no_refusal a (ap (λ t. t.answer) e))
one_judged (Err a) (Err b) e = ap Err (one_number a b (ap (λ t. t.answer) e))
