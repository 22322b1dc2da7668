-- The first pass over a text, turn by turn: the lines that are left, read on from what is known, come to what the whole text comes to.
use Prim.Native.Nat.{ℕ, zero, suc, ◌+◌, ◌≤◌}
use mathlib.Core.Path.{◌≡◌, ap, refl, sym, subst, ◌∙◌}
use mathlib.Core.Bool.{true, false}
use mathlib.Core.List.{List, [], ◌∷◌}
use native.Mathlib.Omega.{arith}
use lib.ListN.{length}
use Rattle.std.specs.Prelude.{Result, Ok, Err}
use Rattle.std.specs.Result.{IsErrAnd}
use Rattle.std.proofs.lemmas.Result.{err_from_is_err_and}
use Rattle.answers.specs.declared.refused.Refused.TheVariants.{NoEnd}
use Rattle.answers.specs.Call.{first_refusal}
use Rattle.answers.specs.Refused.{number}
use Rattle.answers.proofs.Exits.{some_number}
use Rattle.frames.specs.declared.Frame.TheVariants.{Header, Assign, Permit, Separate, End}
use Rattle.frames.specs.declared.Frame.{Frame}
use Rattle.frames.specs.declared.Passed.{Passed}
use Rattle.frames.specs.declared.RefusedText.{RefusedText}
use Rattle.frames.specs.Frame.{Parsed}
use Rattle.frames.specs.Check.{start, next, next_line, line_refusals, Refused, check, parsed_lines}
use Rattle.frames.proofs.Checks.{check_go, check_stop, more_lines, few_lines}
use Rattle.checking.specs.Inner.{after_lines, Checks}

-- where k is known of the lines before, and the rest is left
pub record Checking (t : List ℕ) (k : Passed) (rest : List Parsed) : Type 0 where
  pub verdict : check k rest ≡ check start (parsed_lines t)
  pub passed : after_lines k rest ≡ after_lines start (parsed_lines t)
  pub few_lines : k.lines + length rest ≤ length t
  pub few_separations : k.separations ≤ k.lines

pub checking_start : (t : List ℕ) (k : Passed) → k ≡ start → Checking t k (parsed_lines t)
unfolding start
checking_start t k e =
    subst (λ (m : Passed). Checking t m (parsed_lines t)) (sym e)
    (record { verdict = refl; passed = refl; few_lines = omega (arith, few_lines t); few_separations = omega arith })

fewer_separations : (k : Passed) (x : Parsed) → k.separations ≤ k.lines → (next_line k x).separations ≤ (next_line k x).lines
unfolding next_line next
fewer_separations k (Err why) h = omega arith
fewer_separations k (Ok (Header s o r)) h = omega arith
fewer_separations k (Ok (Assign s r)) h = omega arith
fewer_separations k (Ok (Permit r o m)) h = omega arith
fewer_separations k (Ok (Separate v u)) h = omega arith
fewer_separations k (Ok (End v l)) h = omega arith

-- what the exit of a `?` answers
pub refused_with : {T : Type 0} (r : RefusedText) (x : Result T RefusedText) → IsErrAnd x (λ y. y ≡ r) → x ≡ Err r
refused_with r x e = let p = err_from_is_err_and x e in p.1 ∙ ap Err p.2

module _ (t : List ℕ) (k : Passed) (rest : List Parsed) (s : Checking t k rest) where
  module _ (line : Parsed) (more : List Parsed) (here : rest ≡ line ∷ more) where
    -- the line passes
    pub checking_next : (f : Frame) (m : Passed) → line ≡ Ok f → first_refusal (line_refusals k line) ≡ 0 → m ≡ next k f → Checking t m more
    unfolding after_lines next_line
    checking_next f m is fine e =
        let same : m ≡ next_line k line = rw is e in
        subst (λ (y : Passed). Checking t y more) (sym same)
        (record {
          verdict = sym (check_go k line more fine) ∙ ap (check k) (sym here) ∙ s.verdict;
          passed = ap (after_lines k) (sym here) ∙ s.passed;
          few_lines = omega (arith, more_lines k line, ap length here, s.few_lines);
          few_separations = fewer_separations k line s.few_separations;
        })

    -- it is refused
    refused_at : (n : ℕ) → n ≡ first_refusal (line_refusals k line) → (n ≡ 0 → ⊥) → Refused n (k.lines + 1) ≡ check start (parsed_lines t)
    refused_at zero e some = absurd (some refl)
    refused_at (suc n) e some = sym (check_stop k line more n (sym e)) ∙ ap (check k) (sym here) ∙ s.verdict

    pub stops : (r : RefusedText) (x : Result Passed RefusedText) → IsErrAnd x (λ y. y ≡ r) → number r.why ≡ first_refusal (line_refusals k line) →
        r.line ≡ k.lines + 1 → Checks t x
    stops r x e n l =
        subst (λ (y : Result Passed RefusedText). Checks t y) (sym (refused_with r x e))
        (record { verdict = ap (Refused (number r.why)) l ∙ refused_at (number r.why) n (some_number r.why); passed = λ m h. absurd (cc) })

  -- no line is left
  module _ (done : rest ≡ []) where
    pub ends_well : k.ended ≡ true → Checks t (Ok k)
    unfolding check after_lines
    ends_well e = record { verdict = rw (done, e) at s.verdict; passed = λ m h. let same : m ≡ k = cc in same ∙ rw done at s.passed }

    pub ends_short : k.ended ≡ false → Checks t (Err (record { why = NoEnd; line = k.lines + 1 }))
    unfolding check
    ends_short e = record { verdict = rw (done, e) at s.verdict; passed = λ m h. absurd (cc) }
