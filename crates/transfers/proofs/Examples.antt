-- Two subjects and one object: subject 0 may write object 0, which is entity 2, and subject 1 may read it. What the definitions say of
-- transfers there.
use Prim.Native.Nat.{ℕ, ◌≤◌, ◌<◌}
use mathlib.Core.Path.{◌≡◌, refl}
use mathlib.Core.Bool.{true, false}
use mathlib.Core.List.{List, [], ◌∷◌}
use native.Mathlib.Omega.{arith}
use lib.Dec.{lit<}
use Rattle.tables.specs.declared.Counts.{Counts}
use Rattle.answers.specs.Call.{first_refusal}
use Rattle.answers.specs.Rows.{over, count}
use Rattle.tables.specs.Sheet.{counts}
use Rattle.transfers.specs.declared.Act.TheVariants.{Moves, OutOfRange, NotPermitted}
use Rattle.transfers.specs.declared.Transfer.{Transfer}
use Rattle.transfers.specs.Acts.{verdict_byte, verdict_bytes, plus, acted, after, AllCome, none, next}
use Rattle.transfers.specs.Transfers.{transfer, flat_transfers, Way, to_subject, to_object, Comes, moves, outside, barred, flat_bytes}
use Rattle.transfers.specs.Rehearse.{tally, new_tally, raised, rehearsal_short, not_rehearsed, rehearsed, Rehearses, tally_refusals}
use Rattle.transfers.specs.Demand3.{transfer_of, chain_transfers}
use Rattle.transfers.proofs.Shares.{share}

pub data Hop : ℕ → ℕ → Type 0 where
  written : Hop 0 2
  read : Hop 2 1

abbrev pub few : Counts
few = counts 2 1 2

pub nothing_from_1 : {a b : ℕ} → Hop a b → a ≡ 1 → ⊥
nothing_from_1 written e = omega arith
nothing_from_1 read e = omega arith

-- ---- acts and marks
-- "the destination's mark becomes its old mark plus the source's mark modulo 4,294,967,296", one transfer after the other
record Marking : Type 0 where
  wraps : after (Moves 0 2 ∷ []) (4294967295 ∷ 0 ∷ 2 ∷ []) ≡ 4294967295 ∷ 0 ∷ 1 ∷ []
  not_before : after (Moves 0 2 ∷ []) (2147483648 ∷ 0 ∷ 2147483647 ∷ []) ≡ 2147483648 ∷ 0 ∷ 4294967295 ∷ []
  -- the second moves what the first brought, so not all start from the starting marks
  one_after_the_other : after (Moves 0 2 ∷ Moves 2 1 ∷ []) (7 ∷ 0 ∷ 0 ∷ []) ≡ 7 ∷ 7 ∷ 7 ∷ []
  the_other_way_round : after (Moves 2 1 ∷ Moves 0 2 ∷ []) (7 ∷ 0 ∷ 0 ∷ []) ≡ 7 ∷ 0 ∷ 7 ∷ []
  -- the source keeps its mark, the destination adds to its own
  added : after (Moves 0 2 ∷ []) (7 ∷ 0 ∷ 5 ∷ []) ≡ 7 ∷ 0 ∷ 12 ∷ []
  unmoved : after (OutOfRange ∷ NotPermitted ∷ []) (7 ∷ 3 ∷ 5 ∷ []) ≡ 7 ∷ 3 ∷ 5 ∷ []
  bytes : verdict_bytes (Moves 0 2 ∷ OutOfRange ∷ NotPermitted ∷ []) ≡ 0 ∷ 10 ∷ 16 ∷ []
  entered_twice : share (Moves 0 2 ∷ Moves 0 2 ∷ Moves 2 1 ∷ []) 0 1 ≡ 2
  never_entered : share (Moves 2 1 ∷ Moves 0 2 ∷ []) 0 1 ≡ 0

marking : Marking
unfolding after acted plus verdict_bytes verdict_byte share
marking =
    record {
      wraps = refl;
      not_before = refl;
      one_after_the_other = refl;
      the_other_way_round = refl;
      added = refl;
      unmoved = refl;
      bytes = refl;
      entered_twice = refl;
      never_entered = refl;
    }

-- ---- what a transfer comes to
-- mode 2 moves from subject to object, mode 1 from object to subject
writes : Comes few Hop (transfer 0 0 2) (Moves 0 2)
writes = moves (to_object (lit< tt) (lit< tt) refl) written

reads : Comes few Hop (transfer 1 0 1) (Moves 2 1)
reads = moves (to_subject (lit< tt) (lit< tt) refl) read

-- subject 1 may not write
no_channel : Comes few Hop (transfer 1 0 2) NotPermitted
no_channel = barred (to_object (lit< tt) (lit< tt) refl) (λ h. nothing_from_1 h refl)

record InRange (t : Transfer) : Type 0 where
  subject : t.subject < 2
  object : t.object < 1
  low : 1 ≤ t.mode
  high : t.mode ≤ 2

in_range : {t : Transfer} {a b : ℕ} → Way few t a b → InRange t
in_range (to_subject s o m) = record { subject = s; object = o; low = omega arith; high = omega arith }
in_range (to_object s o m) = record { subject = s; object = o; low = omega arith; high = omega arith }

subject_outside : Comes few Hop (transfer 2 0 1) OutOfRange
subject_outside = outside (λ a b w. let r = in_range w in omega arith)

object_outside : Comes few Hop (transfer 0 1 2) OutOfRange
object_outside = outside (λ a b w. let r = in_range w in omega arith)

mode_0 : Comes few Hop (transfer 0 0 0) OutOfRange
mode_0 = outside (λ a b w. let r = in_range w in omega arith)

mode_3 : Comes few Hop (transfer 0 0 3) OutOfRange
mode_3 = outside (λ a b w. let r = in_range w in omega arith)

-- ---- a whole list of them
abbrev seven : List Transfer
seven =
    transfer 0 0 2
    ∷ transfer 2 0 1
    ∷ transfer 1 0 2
    ∷ transfer 1 0 1
    ∷ transfer 0 1 2
    ∷ transfer 0 0 0
    ∷ transfer 0 0 3
    ∷ []

all_come : AllCome (Comes few Hop) seven (Moves 0 2 ∷ OutOfRange ∷ NotPermitted ∷ Moves 2 1 ∷ OutOfRange ∷ OutOfRange ∷ OutOfRange ∷ [])
all_come = next writes (next subject_outside (next no_channel (next reads (next object_outside (next mode_0 (next mode_3 none))))))

-- "The result gives the count applied": two are, four are outside, one is barred; the buffer's last two bytes stay
seven_rehearsed : Rehearses (Comes few Hop) seven (7 ∷ 3 ∷ 0 ∷ []) (9 ∷ 9 ∷ 9 ∷ 9 ∷ 9 ∷ 9 ∷ 9 ∷ 8 ∷ 7 ∷ []) (tally 100 200 300) record {
  answer = 0;
  applied = 2;
  marks = 7 ∷ 10 ∷ 7 ∷ [];
  verdicts = 0 ∷ 10 ∷ 16 ∷ 0 ∷ 10 ∷ 10 ∷ 10 ∷ 8 ∷ 7 ∷ [];
  tally = tally 102 204 301;
}
unfolding rehearsed after acted plus verdict_bytes verdict_byte over count raised
seven_rehearsed = record { acts = _; come = all_come; result_is = refl }

-- ---- flat bytes, three each, and the transfers of a chain
record Threes : Type 0 where
  read_off : flat_transfers (0 ∷ 0 ∷ 2 ∷ 1 ∷ 0 ∷ 1 ∷ []) ≡ transfer 0 0 2 ∷ transfer 1 0 1 ∷ []
  written_down : flat_bytes (transfer 0 0 2 ∷ transfer 1 0 1 ∷ []) ≡ 0 ∷ 0 ∷ 2 ∷ 1 ∷ 0 ∷ 1 ∷ []
  along_a_chain : chain_transfers few (0 ∷ 2 ∷ 1 ∷ []) ≡ transfer 0 0 2 ∷ transfer 1 0 1 ∷ []
  of_one_entity : chain_transfers few (0 ∷ []) ≡ []

threes : Threes
unfolding flat_transfers flat_bytes chain_transfers transfer_of
threes = record { read_off = refl; written_down = refl; along_a_chain = refl; of_one_entity = refl }

-- ---- tallies
record Tallies : Type 0 where
  -- one 10, two of 16, three of 0
  from_nothing : raised new_tally (0 ∷ 10 ∷ 16 ∷ 0 ∷ 16 ∷ 0 ∷ []) ≡ record { applied = 3; outside = 1; barred = 2 }
  has_room : first_refusal (tally_refusals (tally 4294963199 4294963199 4294963199)) ≡ 0
  applied_full : first_refusal (tally_refusals (tally 4294963200 0 0)) ≡ 17
  outside_full : first_refusal (tally_refusals (tally 0 4294963200 0)) ≡ 17
  barred_full : first_refusal (tally_refusals (tally 0 0 4294963200)) ≡ 17
  -- "marks 112 numbers of 32 bits, verdict bytes 4,096"
  enough_lent : rehearsal_short 112 4096 ≡ false
  marks_short : rehearsal_short 111 4096 ≡ true
  verdicts_short : rehearsal_short 112 4095 ≡ true
  -- a refusal by 15
  untouched : not_rehearsed (7 ∷ []) (9 ∷ []) (tally 1 2 3) 15
      ≡ record { answer = 15; applied = 0; marks = 7 ∷ []; verdicts = 9 ∷ []; tally = tally 1 2 3 }

tallies : Tallies
unfolding raised count tally_refusals first_refusal rehearsal_short
tallies =
    record {
      from_nothing = refl;
      has_room = refl;
      applied_full = refl;
      outside_full = refl;
      barred_full = refl;
      enough_lent = refl;
      marks_short = refl;
      verdicts_short = refl;
      untouched = refl;
    }
