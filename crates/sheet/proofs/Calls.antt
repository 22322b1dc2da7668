-- `write` answers 0 exactly for sound tables in buffers of their least lengths, and both round trips of the calls, over any results that
-- their contracts allow: an accepted text, written from the tables that `read` filled, has the same bytes; and sound tables, read from the
-- text that `write` wrote, are the same tables.
use Prim.Native.Nat.{ℕ, ◌*◌, ◌/◌, ◌≤◌}
use mathlib.Core.Path.{◌≡◌, refl, ap, subst}
use mathlib.Core.List.{List}
use native.Mathlib.Omega.{arith}
use lib.ListN.{length, take, drop, length-append, length-drop}
use lib.Seq.{take_at}
use Rattle.answers.specs.declared.Told.{Told}
use Rattle.answers.specs.Call.{told}
use Rattle.answers.specs.Rows.{over}
use Rattle.answers.specs.Sizes.{least_text}
use Rattle.answers.proofs.Calls.{answered}
use Rattle.tables.specs.Sheet.{Sheet, Sound, Lent, sheet_of}
use Rattle.text.specs.Content.{write_sheet}
use Rattle.text.specs.Reading.{accepted, read_text}
use Rattle.text.proofs.RoundTrip.{accepted_sound, read_write, write_read}
use Rattle.reader.specs.Fill.{Tables, LongTables}
use Rattle.sheet.specs.Read.{ReadResult, tables_read, Reads}
use Rattle.sheet.specs.Write.{Writes, LongToWrite}
use Rattle.sheet.specs.RoundTrip.{tables_in, sheet_read, WritesRead}
use Rattle.sheet.proofs.Accepts.{refuses_none, refused_none}
use Rattle.sheet.proofs.ReadDone.{accepted_read}

-- ---- the used part of a buffer
pub used_part : (used buffer : List ℕ) (n : ℕ) → length used ≡ n → take n (over used buffer) ≡ used
unfolding over
used_part used buffer n e = take_at used (drop (length used) buffer) n e

no_shorter : (used buffer : List ℕ) → length buffer ≤ length (over used buffer)
unfolding over
no_shorter used buffer = omega (arith, length-append used (drop (length used) buffer), length-drop (length used) buffer)

-- ---- which tables are written
module _ (l : Lent) (count : ℕ) (listed before : List ℕ) (written : Told × List ℕ) (w : Writes l count listed before written) where
  -- sound tables are written, and the length of their text is told
  pub sound_written : Sound (sheet_of l count listed) → 2 * count ≤ length listed → LongToWrite l listed before →
      (written.0.answer ≡ 0)
      × (written ≡ (told 0 (length (write_sheet (sheet_of l count listed))), over (write_sheet (sheet_of l count listed)) before))
  sound_written p room long =
      let done = w.done (refuses_none l count listed before p room long) in
      (ap (λ (x : Told × List ℕ). x.0.answer) done, done)

  -- and no others
  pub written_sound : written.0.answer ≡ 0 → Sound (sheet_of l count listed) × (2 * count ≤ length listed) × LongToWrite l listed before
  written_sound e = refused_none l count listed before (answered (λ (x : Told × List ℕ). x.0.answer) (λ n. refl) w e)

-- ---- from reading to writing
module _ (lent : Tables) (t : Sheet) (p : Sound t) where
  abbrev pub filled : ReadResult
  filled = tables_read lent t

  pub sheet_back : sheet_read filled ≡ t
  unfolding sheet_of
  sheet_back =
      simp (
        used_part t.assignment lent.assignment _ p.assignment_size,
        used_part t.permission lent.permission _ p.permission_size,
        used_part t.separations lent.separations (2 * (length t.separations / 2)) (omega (arith, p.separations_size)),
      )

  module _ (long : LongTables lent) where
    still_long : LongTables filled.tables
    still_long =
        record {
          assignment_long = omega (arith, long.assignment_long, no_shorter t.assignment lent.assignment);
          permission_long = omega (arith, long.permission_long, no_shorter t.permission lent.permission);
          separations_long = omega (arith, long.separations_long, no_shorter t.separations lent.separations);
        }

    -- so what was read meets the premises of `sound_written`
    pub ready_back : (before : List ℕ) → least_text ≤ length before →
        Sound (sheet_read filled)
        × (2 * filled.reading.separations ≤ length filled.tables.separations)
        × LongToWrite (tables_in filled) filled.tables.separations before
    ready_back before room = (
      rw sheet_back p,
      omega (arith, p.separations_size, p.separations_fit, still_long.separations_long),
      record { tables_long = still_long; text_long = room },
    )

-- "An accepted sheet read and written back has the same bytes"
pub accepted_read_written : (text : List ℕ) (t : Sheet) (lent : Tables) (result : ReadResult) (before : List ℕ) (written : Told × List ℕ) →
    read_text text ≡ accepted t → LongTables lent → least_text ≤ length before →
    Reads text lent result → WritesRead result before written → written ≡ (told 0 (length text), over text before)
accepted_read_written text t lent result before written e long room r w =
    let p : Sound t = accepted_sound text e in
    let w' : WritesRead (tables_read lent t) before written = subst (λ (x : ReadResult). WritesRead x before written) (accepted_read lent text result r long t e).1 w in
    let ready = ready_back lent t p long before room in
    rw (sheet_back lent t p, read_write text e) at (sound_written _ _ _ before written w' ready.0 ready.1 ready.2).1

-- ---- from writing to reading
-- "sound tables written and read back are the same tables"; what the buffers held past them stays
pub sound_written_read : (l : Lent) (count : ℕ) (listed before : List ℕ) (written : Told × List ℕ) (lent : Tables) (result : ReadResult) →
    Sound (sheet_of l count listed) → 2 * count ≤ length listed → LongToWrite l listed before → LongTables lent →
    Writes l count listed before written → Reads (take written.0.value written.1) lent result →
    (sheet_read result ≡ sheet_of l count listed) × (result ≡ tables_read lent (sheet_of l count listed))
sound_written_read l count listed before written lent result p room long-to-write long w r =
    let t : Sheet = sheet_of l count listed in
    let text-is : take written.0.value written.1 ≡ write_sheet t = rw (sound_written l count listed before written w p room long-to-write).1 (used_part (write_sheet t) before _ refl) in
    let filled-by = (accepted_read lent _ result r long t (rw text-is (write_read p))).1 in
    (rw filled-by (sheet_back lent t p), filled-by)
