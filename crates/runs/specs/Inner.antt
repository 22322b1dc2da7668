-- How a rehearsal begins, goes on and ends. No promise: it only ties functions together.
use Rattle.std.specs.Prelude.{ℕ, ◌+◌, ◌≤◌, ◌≡◌, Bool, false, List, [], ◌∷◌, length}
use Rattle.answers.specs.Sizes.{most_transfers, least_marks, least_verdicts}
use Rattle.answers.specs.Call.{Refusal, ◌if◌, ◌then◌, Outcome}
use Rattle.answers.specs.Rows.{Bytes, over, count}
use Rattle.tables.specs.declared.Counts.{Counts}
use Rattle.tables.specs.Sheet.{Lent, sheet_in}
use Rattle.tables.specs.Refusals.{sheet_refusals, Sized}
use Rattle.access.specs.Channel.{Channel}
use Rattle.transfers.specs.declared.Act.{Act}
use Rattle.transfers.specs.declared.Transfer.{Transfer}
use Rattle.transfers.specs.declared.Tally.{Tally}
use Rattle.transfers.specs.Acts.{verdict_bytes, after, AllCome}
use Rattle.transfers.specs.Transfers.{transfer, Comes}
use Rattle.transfers.specs.Rehearse.{Rehearsed, not_rehearsed, Rehearses, tally, most_tallied, tally_refusals, rehearsal_short}

-- what would be read past the end of a list
abbrev pub no_transfer : Transfer
no_transfer = transfer 0 0 0

-- the refusals of any rehearsal, by its tests: another buffer is too short, the list is over its size, a flat list has no whole threes
unfoldable pub tested_refusals : Bool → Bool → Bool → Lent → Tally → List Refusal
tested_refusals short long ragged l t = sheet_refusals short long l then ((15 if ragged) ∷ []) then tally_refusals t

-- what passes them: tables, a list of its size, marks and verdict bytes for all, a tally with room
pub record Cleared (long : Bool) (l : Lent) (marks verdicts : ℕ) (t : Tally) : Type 0 where
  pub sized : Sized l
  pub not_long : long ≡ false
  pub marked : least_marks ≤ marks
  pub placed : least_verdicts ≤ verdicts
  pub applied : t.applied ≤ most_tallied
  pub outside : t.outside ≤ most_tallied
  pub barred : t.barred ≤ most_tallied

-- a rehearsal that is not refused, by the channels of a sheet
abbrev pub Performs : Lent → List Transfer → List ℕ → List ℕ → Tally → Rehearsed → Type 0
Performs l = Rehearses (Comes l.counts (Channel (sheet_in l)))

-- the contract of a rehearsal of any list, by whether it is over its size, whether it is ragged, and the transfers that it holds
abbrev pub RehearsesList : Bool → Bool → List Transfer → Lent → List ℕ → List ℕ → Tally → Rehearsed → Type 0
RehearsesList long ragged ts l marks verdicts t =
    Outcome (tested_refusals (rehearsal_short (length marks) (length verdicts)) long ragged l t) (not_rehearsed marks verdicts t)
    (Performs l ts marks verdicts t)

-- room for so many transfers among n entities
pub record Runnable (n transfers : ℕ) (marks verdicts : List ℕ) : Type 0 where
  pub marked : n ≤ length marks
  pub placed : transfers ≤ length verdicts
  pub few : transfers ≤ most_transfers

-- transfers made, by the bytes of a channel table of n rows
pub record Ran (c : Counts) (n : ℕ) (channels : List ℕ) (ts : List Transfer) (marks verdicts marks' verdicts' : List ℕ) (counts : Tally) : Type 0 where
  pub acts : List Act
  pub come : AllCome (Comes c (Bytes n channels)) ts acts
  pub marks_are : marks' ≡ after acts marks
  pub verdicts_are : verdicts' ≡ over (verdict_bytes acts) verdicts
  pub counts_are : counts ≡ tally (count 0 (verdict_bytes acts)) (count 10 (verdict_bytes acts)) (count 16 (verdict_bytes acts))

-- counts of a rehearsal, and a tally that has room for them
pub record Raisable (counts t : Tally) : Type 0 where
  pub few_applied : counts.applied ≤ most_transfers
  pub few_outside : counts.outside ≤ most_transfers
  pub few_barred : counts.barred ≤ most_transfers
  pub applied : t.applied ≤ most_tallied
  pub outside : t.outside ≤ most_tallied
  pub barred : t.barred ≤ most_tallied

-- a tally raised by the counts of a rehearsal
abbrev pub raised_by : Tally → Tally → Tally
raised_by counts t = tally (t.applied + counts.applied) (t.outside + counts.outside) (t.barred + counts.barred)
