-- `fill`: the flow table of a sheet.
use Rattle.std.specs.Prelude.{ℕ, ◌≡◌, List}
use Rattle.answers.specs.Sizes.{least_flow}
use Rattle.answers.specs.Call.{Refusal, Outcome, left}
use Rattle.answers.specs.Rows.{Filled, shorter}
use Rattle.tables.specs.Sheet.{Lent, Sheet, sheet_in, entities}
use Rattle.tables.specs.Refusals.{no_list, sheet_refusals}
use Rattle.access.specs.Channel.{SheetFlow}

-- "Order for every call on tables: 1, 5, 11"
unfoldable pub fill_refusals : Lent → List ℕ → List Refusal
fill_refusals l flow = sheet_refusals (shorter flow least_flow) no_list l

-- "flow, N x N bytes, 0 or 1, at x x N + y": the flow table of a sheet, in a buffer
abbrev pub FlowFilled : Sheet → List ℕ → List ℕ → Type 0
FlowFilled t = Filled (entities t.counts) (SheetFlow t)

-- the contract of `fill`: the answer, and the flow buffer afterwards
abbrev pub Fills : Lent → List ℕ → ℕ × List ℕ → Type 0
Fills l before =
    Outcome (fill_refusals l before) (left before) (λ result. (result.0 ≡ 0) × FlowFilled (sheet_in l) before result.1)
