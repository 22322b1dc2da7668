-- What is known where `chain` refuses nothing, and what it shows then.
use Prim.Native.Nat.{ℕ}
use mathlib.Core.Path.{◌≡◌, refl}
use mathlib.Core.List.{List}
use borrow.Author.Tests.{ltb-false, leb-false, le-ltb, lt-leb}
use Rattle.std.specs.Prelude.{Option, Result}
use Rattle.std.specs.Option.{ok_or}
use Rattle.answers.specs.declared.refused.Refused.{Refused}
use Rattle.answers.specs.declared.refused.Refused.TheVariants.{NoChain}
use Rattle.answers.specs.Refused.{told_of}
use Rattle.answers.specs.Call.{Refusal, first_refusal}
use Rattle.answers.specs.Rows.{Bytes, Filled, shorter}
use Rattle.answers.specs.Sizes.{least_chain}
use Rattle.tables.specs.Sheet.{Lent, sheet_in, entities}
use Rattle.tables.specs.Refusals.{no_list, sheet_refusals}
use Rattle.answers.proofs.Calls.{none_left, passed, passed_then, pass, pass_then}
use Rattle.tables.proofs.Accepted.{sheet_numbered, tables_passed, tables_pass}
use Rattle.chains.specs.Shown.{ShownChain, shown as written, missing as none}
use Rattle.theory.proofs.Filled.{bytes_to, bytes_from}
use Rattle.chains.proofs.Relations.{chain_agrees}
use Rattle.access.specs.Channel.{Channel}
use Rattle.access.proofs.Channels.{sheet_inside}
use Rattle.separations.specs.Shown.{Shown, shown, missing}
use Rattle.verdict.specs.Chain.{chain_refusals}
use Rattle.verdict.specs.Inner.{Showable}
use Rattle.theory.specs.Laws.{Contains}

-- ---- what is refused
module _ (l : Lent) (x y : ℕ) (chain : List ℕ) where
  abbrev tables : List Refusal
  tables = sheet_refusals (shorter chain least_chain) no_list l

  pub showable : first_refusal (chain_refusals l x y chain) ≡ 0 → Showable l x y chain
  unfolding chain_refusals
  showable e =
      let p = passed_then tables _ (sheet_numbered _ _ l) e in
      let t = tables_passed _ _ l p.0 in
      let a = passed _ _ _ tt p.1 in
      let b = passed _ _ _ tt a.1 in
      record { sized = t.sized; first = leb-false _ _ a.0; last = leb-false _ _ b.0; room = ltb-false _ _ t.not_short }

  pub chain_pass : Showable l x y chain → first_refusal (chain_refusals l x y chain) ≡ 0
  unfolding chain_refusals
  chain_pass s =
      pass_then tables _ (sheet_numbered _ _ l)
      (tables_pass _ _ l (record { not_short = le-ltb _ _ s.room; not_long = refl; sized = s.sized }))
      (pass 10 _ _ (lt-leb _ _ s.first) (pass 10 _ _ (lt-leb _ _ s.last) none_left))

-- ---- what is shown
-- a channel table that was filled for a sheet has the pairs of the sheet's channels
module _ (l : Lent) (scratch channels : List ℕ) (f : Filled (entities l.counts) (Channel (sheet_in l)) scratch channels) where
  pub sheet_has : Contains (Channel (sheet_in l)) (Bytes (entities l.counts) channels)
  sheet_has = bytes_to f.marked scratch f.written

  pub table_has : Contains (Bytes (entities l.counts) channels) (Channel (sheet_in l))
  table_has = bytes_from f.marked scratch f.written (sheet_inside l)

  pub of_sheet : {before after : List ℕ} {x y : ℕ} {count : Option ℕ} → ShownChain (Bytes (entities l.counts) channels) x y before after count →
      ShownChain (Channel (sheet_in l)) x y before after count
  of_sheet s = chain_agrees sheet_has table_has s

-- "13 | no chain": what `chain` tells of it
pub shown_or : {ch : ℕ → ℕ → Type 0} {x y : ℕ} {before after : List ℕ} {count : Option ℕ} {result : Result ℕ Refused} → ShownChain ch x y before after count →
    result ≡ ok_or count NoChain → Shown ch x y before (told_of result, after)
shown_or (written l b e w) r = shown l b (rw (r, e, w))
shown_or (none no' e w) r = missing no' (rw (r, e, w))
