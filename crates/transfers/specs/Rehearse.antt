-- The rehearsal of a list of transfers: what it answers and leaves, and what it refuses of a tally.
use Rattle.std.specs.Prelude.{ℕ, ◌+◌, ◌≡◌, Bool, ◌||◌, List, [], ◌∷◌, ltb}
use Rattle.answers.specs.declared.Told.{Told}
use Rattle.answers.specs.Sizes.{least_marks, least_verdicts}
use Rattle.answers.specs.Call.{Refusal, ◌if◌}
use Rattle.answers.specs.Rows.{over, count, exceeds}
use Rattle.transfers.specs.declared.Act.{Act}
use Rattle.transfers.specs.declared.Tally.{Tally}
use Rattle.transfers.specs.Acts.{verdict_bytes, after, AllCome}

-- the counts of 0, 10 and 16
abbrev pub tally : ℕ → ℕ → ℕ → Tally
tally applied outside barred = record { applied = applied; outside = outside; barred = barred }

-- "One running tally record is lent to each rehearsal", "first made": three zeros, the contract of `new_tally`
abbrev pub new_tally : Tally
new_tally = tally 0 0 0

-- "raised by its counts of 0, 10 and 16"
unfoldable pub raised : Tally → List ℕ → Tally
raised t verdicts = tally (t.applied + count 0 verdicts) (t.outside + count 10 verdicts) (t.barred + count 16 verdicts)

-- "1 | a lent buffer is shorter than its least length": so many marks, or so many verdict bytes, are too few
unfoldable pub rehearsal_short : (marks verdicts : ℕ) → Bool
rehearsal_short marks verdicts = ltb marks least_marks || ltb verdicts least_verdicts

-- the answer and the count applied; the marks, the verdict bytes and the tally afterwards
pub record Rehearsed : Type 0 where
  pub answer : ℕ
  pub applied : ℕ
  pub marks : List ℕ
  pub verdicts : List ℕ
  pub tally : Tally

-- "Every refusal changes no lent byte, number or tally"
abbrev pub not_rehearsed : List ℕ → List ℕ → Tally → ℕ → Rehearsed
not_rehearsed marks verdicts t n = record { answer = n; applied = 0; marks = marks; verdicts = verdicts; tally = t }

-- what a call answers, and what it leaves
abbrev pub rehearsed_with : Told → List ℕ → List ℕ → Tally → Rehearsed
rehearsed_with r marks verdicts t = record { answer = r.answer; applied = r.value; marks = marks; verdicts = verdicts; tally = t }

-- "The result gives the count applied": how many verdict bytes are 0
unfoldable pub rehearsed : List Act → List ℕ → List ℕ → Tally → Rehearsed
rehearsed acts marks verdicts t =
    record {
      answer = 0;
      applied = count 0 (verdict_bytes acts);
      marks = after acts marks;
      verdicts = over (verdict_bytes acts) verdicts;
      tally = raised t (verdict_bytes acts);
    }

-- a rehearsal that is not refused, of any kind of transfer: `comes` says what each comes to
pub record Rehearses {T : Type 0} (comes : T → Act → Type 0) (ts : List T) (marks verdicts : List ℕ) (t : Tally) (result : Rehearsed) : Type 0 where
  pub acts : List Act
  pub come : AllCome comes ts acts
  pub result_is : result ≡ rehearsed acts marks verdicts t

-- "17 | a tally count above 4,294,963,199"
abbrev pub most_tallied : ℕ
most_tallied = 4294963199

-- any of the three counts
unfoldable pub tally_refusals : Tally → List Refusal
tally_refusals t =
    (17 if exceeds t.applied most_tallied) ∷ (17 if exceeds t.outside most_tallied) ∷ (17 if exceeds t.barred most_tallied) ∷ []
