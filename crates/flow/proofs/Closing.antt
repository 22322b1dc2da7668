-- The rows that close the channel table of a sheet are its flow table.
use Prim.Native.Nat.{ℕ}
use mathlib.Core.Path.{◌≡◌, refl, ap}
use mathlib.Core.Bool.{false}
use mathlib.Core.Logic.{◌≢◌}
use mathlib.Core.List.{List}
use borrow.Author.Tests.{ltb-false}
use Rattle.answers.specs.declared.refused.Refused.{Refused}
use Rattle.answers.specs.Call.{first_refusal, left}
use Rattle.answers.specs.Refused.{number}
use Rattle.answers.proofs.Exits.{some_number}
use Rattle.answers.specs.Rows.{Bytes, Filled, shorter}
use Rattle.answers.specs.Sizes.{least_flow}
use Rattle.tables.specs.Sheet.{Lent, sheet_in, sheet_of, entities}
use Rattle.tables.specs.Refusals.{sheet_refusals}
use Rattle.answers.proofs.Calls.{refuse, accept}
use Rattle.tables.proofs.Accepted.{tables_passed}
use Rattle.rows.specs.Written.{FlowTable}
use Rattle.theory.proofs.Filled.{bytes_to, bytes_from}
use Rattle.rows.proofs.Relations.{table_agrees}
use Rattle.access.specs.Channel.{Channel}
use Rattle.channels.specs.Inner.{Fillable}
use Rattle.access.proofs.Channels.{sheet_inside}
use Rattle.flow.specs.Fill.{FlowFilled, fill_refusals, Fills}

-- what the engine wrote for the bytes of the channel table holds of the sheet's channels
pub closed : (l : Lent) (scratch channels before after : List ℕ) → Filled (entities l.counts) (Channel (sheet_in l)) scratch channels →
    FlowTable (entities l.counts) (Bytes (entities l.counts) channels) before after → FlowFilled (sheet_in l) before after
unfolding sheet_of
closed l scratch channels before after f t =
    table_agrees (bytes_to f.marked scratch f.written) (bytes_from f.marked scratch f.written (sheet_inside l)) t

-- what was not refused can be filled
pub fillable : (l : Lent) (flow : List ℕ) → first_refusal (sheet_refusals (shorter flow least_flow) false l) ≡ 0 → Fillable l flow
fillable l flow e =
    let p = tables_passed _ _ l e in
    record { sized = p.sized; room = ltb-false _ _ p.not_short }

-- ---- the ends of `fill`
pub fill_refused : (l : Lent) (flow : List ℕ) (n : ℕ) → n ≡ first_refusal (sheet_refusals (shorter flow least_flow) false l) → n ≢ 0 → Fills l flow (n, flow)
unfolding fill_refusals
fill_refused l flow n e some = refuse n e some refl

-- the same of a refusal as code has it
pub fill_stopped : (l : Lent) (flow : List ℕ) (why : Refused) {n : ℕ} → n ≡ number why → number why ≡ first_refusal (sheet_refusals (shorter flow least_flow) false l) → Fills l flow (n, flow)
fill_stopped l flow why r e = rw r (fill_refused l flow (number why) e (some_number why))

pub fill_done : (l : Lent) (before after : List ℕ) → first_refusal (sheet_refusals (shorter before least_flow) false l) ≡ 0 → FlowFilled (sheet_in l) before after → Fills l before (0, after)
unfolding fill_refusals
fill_done l before after e f = accept e (refl, f)
