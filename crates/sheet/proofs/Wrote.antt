-- `write`, return by return: by the refusals of the tables, by those of the separations, or with the text.
use Prim.Native.Nat.{ℕ, ◌≤◌}
use mathlib.Core.Path.{◌≡◌, refl}
use mathlib.Core.Logic.{◌≢◌}
use mathlib.Core.Bool.{◌||◌}
use mathlib.Core.List.{List}
use borrow.Author.Tests.{ltb-false}
use lib.ListN.{length}
use Rattle.answers.specs.Sizes.{least_separations, least_text}
use Rattle.answers.specs.Call.{first_refusal, told}
use Rattle.answers.specs.Rows.{shorter}
use Rattle.answers.proofs.Calls.{refuse_shared, refuse_own, accept_own}
use Rattle.answers.proofs.Joined.{neither}
use Rattle.tables.specs.Sheet.{Lent, sheet_of, entities}
use Rattle.tables.specs.Refusals.{no_list, sheet_refusals, separation_refusals, Sized}
use Rattle.tables.proofs.Accepted.{sheet_numbered, tables_passed, separations_passed}
use Rattle.scribe.specs.Put.{Scribable, Written}
use Rattle.sheet.specs.Write.{Writes, write_refusals}

module _ (l : Lent) (count : ℕ) (separations text : List ℕ) where
  -- 1, 5 and 11 of `write`; the other buffers that it is lent are the separations and the text
  abbrev pub tables_refusal : ℕ
  tables_refusal = first_refusal (sheet_refusals (shorter separations least_separations || shorter text least_text) no_list l)

  -- 8, 6 and 7
  abbrev pub pairs_refusal : ℕ
  pairs_refusal = first_refusal (separation_refusals (entities l.counts) count separations)

  -- what is known where 1, 5 and 11 have passed
  pub record Writable : Type 0 where
    pub sized : Sized l
    pub separations_long : least_separations ≤ length separations
    pub text_long : least_text ≤ length text

  pub past_tables : tables_refusal ≡ 0 → Writable
  past_tables e =
      let tables = tables_passed _ no_list l e in
      let short = neither (shorter separations least_separations) (shorter text least_text) tables.not_short in
      record { sized = tables.sized; separations_long = ltb-false _ _ short.0; text_long = ltb-false _ _ short.1 }

  pub past_all : tables_refusal ≡ 0 → pairs_refusal ≡ 0 → Scribable l count separations text
  past_all e f =
      let p = past_tables e in
      record {
        sized = p.sized;
        listed = separations_passed _ separations count f;
        separations_long = p.separations_long;
        text_long = p.text_long;
      }

  pub refused_by_tables : (n : ℕ) → n ≡ tables_refusal → n ≢ 0 → Writes l count separations text (told n 0, text)
  unfolding write_refusals
  refused_by_tables n e some = refuse_shared _ _ n e some refl

  pub refused_by_pairs : (n : ℕ) → tables_refusal ≡ 0 → n ≡ pairs_refusal → n ≢ 0 → Writes l count separations text (told n 0, text)
  unfolding write_refusals
  refused_by_pairs n none e some = refuse_own _ _ n (sheet_numbered _ no_list l) none e some refl

  pub wrote : (n : ℕ) (after : List ℕ) → tables_refusal ≡ 0 → pairs_refusal ≡ 0 → Written (sheet_of l count separations) text n after →
      Writes l count separations text (told 0 n, after)
  unfolding write_refusals
  wrote n after none e w = accept_own _ _ (sheet_numbered _ no_list l) none e (rw (w.size, w.text))
