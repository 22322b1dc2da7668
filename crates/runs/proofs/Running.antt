-- A rehearsal, transfer by transfer.
use Prim.Native.Nat.{ℕ, ◌+◌, ◌≤◌, ◌<◌}
use native.Mathlib.Numerals.{add-one}
use native.Mathlib.Omega.{arith}
use mathlib.Core.Path.{◌≡◌, refl, sym, ap, ◌∙◌}
use mathlib.Core.Bool.{cond}
use mathlib.Core.List.{List, [], ◌∷◌, ◌++◌}
use lib.Dec.{eqb}
use lib.ListN.{length, get_or, take}
use lib.Seq.{length-take-le, take-suc}
use Rattle.tables.specs.declared.Counts.{Counts}
use Rattle.tables.specs.Sheet.{Lent, sheet_in, entities}
use Rattle.access.specs.Channel.{Channel}
use Rattle.answers.specs.Call.{told}
use Rattle.answers.specs.Rows.{Bytes, Filled, over, count}
use Rattle.answers.proofs.Written.{over_more, count_more, count_within}
use Rattle.transfers.specs.declared.Act.{Act}
use Rattle.transfers.specs.declared.Transfer.{Transfer}
use Rattle.transfers.specs.declared.Tally.{Tally}
use Rattle.transfers.specs.Acts.{verdict_byte, verdict_bytes, acted, after, AllCome, none, next}
use Rattle.transfers.specs.Rehearse.{tally, rehearsed_with, rehearsed, raised}
use Rattle.steps.specs.Inner.{state_of, noted, Stepped}
use Rattle.runs.specs.Inner.{Ran, Performs, raised_by}
use Rattle.transfers.proofs.Moving.{come_length}
use Rattle.transfers.proofs.Acting.{by_table}

-- ---- one act more
after_more : (acts : List Act) (act : Act) (marks : List ℕ) → after (acts ++ (act ∷ [])) marks ≡ acted act (after acts marks)
unfolding after
after_more [] act marks = refl
after_more (t ∷ acts) act marks = after_more acts act (acted t marks)

bytes_more : (acts : List Act) (act : Act) → verdict_bytes (acts ++ (act ∷ [])) ≡ verdict_bytes acts ++ (verdict_byte act ∷ [])
unfolding verdict_bytes
bytes_more [] act = refl
bytes_more (t ∷ acts) act = ap (λ bytes. verdict_byte t ∷ bytes) (bytes_more acts act)

come_more : {T : Type 0} {comes : T → Act → Type 0} {ts : List T} {acts : List Act} {t : T} {act : Act} →
    AllCome comes ts acts → comes t act → AllCome comes (ts ++ (t ∷ [])) (acts ++ (act ∷ []))
come_more none last = next last none
come_more (next h rest) last = next h (come_more rest last)

-- ---- no count is above the number of transfers
pub record Few (n : ℕ) (t : Tally) : Type 0 where
  pub applied : t.applied ≤ n
  pub outside : t.outside ≤ n
  pub barred : t.barred ≤ n

module _ {c : Counts} {n : ℕ} {channels : List ℕ} {ts : List Transfer} {marks verdicts marks' verdicts' : List ℕ} {counts : Tally} where
  pub ran_few : Ran c n channels ts marks verdicts marks' verdicts' counts → Few (length ts) counts
  ran_few r =
      let within : (v : ℕ) → count v (verdict_bytes r.acts) ≤ length ts = λ v. omega (arith, come_length r.come, count_within v (verdict_bytes r.acts)) in
      rw r.counts_are (record { applied = within 0; outside = within 10; barred = within 16 })

-- ---- one transfer more
module _ {c : Counts} {n : ℕ} {channels : List ℕ} {marks verdicts : List ℕ} where
  pub ran_none : {counts : Tally} → counts ≡ tally 0 0 0 → Ran c n channels [] marks verdicts marks verdicts counts
  unfolding after verdict_bytes over count
  ran_none e = record { acts = []; come = none; marks_are = refl; verdicts_are = refl; counts_are = e }

  module _ (ts : List Transfer) (d : Transfer) (k : ℕ) {marks' verdicts' marks'' verdicts'' : List ℕ} {counts counts' : Tally} where
    -- d is what would be read past the list's end
    pub ran_more : k < length ts → k < length verdicts → Ran c n channels (take k ts) marks verdicts marks' verdicts' counts →
        Stepped c (Bytes n channels) (get_or ts k d) k (state_of marks' verdicts' counts) (state_of marks'' verdicts'' counts') →
        Ran c n channels (take (k + 1) ts) marks verdicts marks'' verdicts'' counts'
    unfolding noted
    ran_more inside room r made =
        let size : length (verdict_bytes r.acts) ≡ k = come_length r.come ∙ length-take-le k ts (omega arith) in
        let bytes = bytes_more r.acts made.act in
        let counted : (v : ℕ) → count v (verdict_bytes (r.acts ++ (made.act ∷ []))) ≡ count v (verdict_bytes r.acts) + cond (eqb (verdict_byte made.act) v) 1 0 =
        λ v. ap (count v) bytes ∙ count_more v (verdict_bytes r.acts) (verdict_byte made.act) in
        record {
          acts = r.acts ++ (made.act ∷ []);
          come = rw (add-one k, take-suc ts k d inside) (come_more r.come made.comes);
          marks_are = made.marks_are ∙ ap (acted made.act) r.marks_are ∙ sym (after_more r.acts made.act marks);
          verdicts_are = made.verdicts_are ∙ rw (r.verdicts_are, bytes) (over_more (verdict_bytes r.acts) verdicts k (verdict_byte made.act) size room);
          counts_are = made.counts_are ∙ rw (r.counts_are, counted 0, counted 10, counted 16);
        }

-- ---- when all are made
-- by the bytes of a table that was filled for the sheet's channels
pub performed : (l : Lent) {n : ℕ} {ts : List Transfer} {marks verdicts marks' verdicts' before channels : List ℕ} {counts t t' : Tally} → n ≡ entities l.counts →
    Filled (entities l.counts) (Channel (sheet_in l)) before channels → Ran l.counts n channels ts marks verdicts marks' verdicts' counts →
    t' ≡ raised_by counts t → Performs l ts marks verdicts t (rehearsed_with (told 0 counts.applied) marks' verdicts' t')
unfolding rehearsed raised
performed l e filled r raised_is =
    record {
      acts = r.acts;
      come = by_table filled (rw e at r.come);
      result_is = rw (raised_is, r.marks_are, r.verdicts_are, r.counts_are);
    }
