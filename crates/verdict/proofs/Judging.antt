-- What is known where `judge` refuses nothing, and what it judges then.
use Prim.Native.Nat.{ℕ, ◌≤◌}
use mathlib.Core.Path.{◌≡◌}
use mathlib.Core.Bool.{◌||◌}
use mathlib.Core.List.{List}
use borrow.Author.Tests.{ltb-false}
use lib.ListN.{length}
use Rattle.answers.specs.Call.{Refusal, first_refusal}
use Rattle.answers.specs.Rows.{Bytes, Filled, shorter}
use Rattle.answers.specs.Sizes.{least_chain, least_separations}
use Rattle.tables.specs.Sheet.{Lent, sheet_in, sheet_of, entities}
use Rattle.tables.specs.Refusals.{no_list, sheet_refusals, separation_refusals}
use Rattle.answers.proofs.Calls.{passed_then}
use Rattle.tables.proofs.Accepted.{sheet_numbered, tables_passed, separations_passed}
use Rattle.answers.proofs.Joined.{neither}
use Rattle.access.specs.Channel.{Channel}
use Rattle.separations.specs.declared.Judged.{Judged}
use Rattle.separations.specs.Judgement.{Judgement}
use Rattle.verdict.specs.Judge.{judge_refusals}
use Rattle.verdict.specs.Inner.{Judgeable}
use Rattle.verdict.proofs.Showing.{sheet_has, table_has}
use Rattle.separations.proofs.Agreeing.{judgement_agrees}

-- ---- what is refused
module _ (l : Lent) (count : ℕ) (separations chain : List ℕ) where
  -- 1, 5 and 11; the other buffers that `judge` is lent are the separations and the chain
  abbrev pub tables : List Refusal
  tables = sheet_refusals (shorter separations least_separations || shorter chain least_chain) no_list l

  -- 8, 6 and 7
  abbrev pub pairs : List Refusal
  pairs = separation_refusals (entities l.counts) count separations

  -- what is known where 1 has passed
  pub both_long : first_refusal tables ≡ 0 → (least_separations ≤ length separations) × (least_chain ≤ length chain)
  both_long none =
      let short = neither (shorter separations least_separations) (shorter chain least_chain) (tables_passed _ _ l none).not_short in
      (ltb-false _ _ short.0, ltb-false _ _ short.1)

  pub judgeable : first_refusal (judge_refusals l count separations chain) ≡ 0 → Judgeable l count separations chain
  unfolding judge_refusals
  judgeable e =
      let p = passed_then tables pairs (sheet_numbered _ _ l) e in
      record {
        sized = (tables_passed _ _ l p.0).sized;
        listed = separations_passed _ separations count p.1;
        long = (both_long p.0).0;
        room = (both_long p.0).1;
      }

-- what is judged over a channel table that was filled for the sheet; the separations make no channel
pub of_sheet : (l : Lent) (count : ℕ) (separations scratch channels before : List ℕ) (result : Judged × List ℕ) →
    Filled (entities l.counts) (Channel (sheet_in l)) scratch channels → Judgement (Bytes (entities l.counts) channels) count separations before result →
    Judgement (Channel (sheet_of l count separations)) count separations before result
unfolding sheet_of
of_sheet l count separations scratch channels before result f v =
    judgement_agrees (sheet_has l scratch channels f) (table_has l scratch channels f) v
