-- The frames of a sheet, part after part: there is room for all, and in the end the text is whole.
use Prim.Native.Nat.{ℕ, ◌+◌, ◌*◌, ◌≤◌, ◌<◌}
use mathlib.Core.Path.{◌≡◌, ap, ◌∙◌}
use mathlib.Core.List.{List, [], ◌∷◌, ◌++◌, append_assoc}
use native.Mathlib.Nat.{zero-add}
use native.Mathlib.Omega.{arith}
use denote.Ref.{MutBor}
use lib.ListN.{length, take, length-append}
use lib.Seq.{sets-eq}
use Rattle.answers.specs.Sizes.{least_text}
use Rattle.answers.specs.Rows.{over}
use Rattle.tables.specs.Sheet.{Lent, sheet_of}
use Rattle.tables.proofs.Sounds.{sound_of}
use Rattle.frames.specs.declared.Frame.{Frame}
use Rattle.frames.specs.declared.Frame.TheVariants.{Header}
use Rattle.frames.specs.Frame.{text_of}
use Rattle.text.specs.Content.{assign_at, permit_at, separates, body, opened, closing, frames_in, write_sheet}
use Rattle.text.proofs.RoundTrip.{written_fits}
use Rattle.scribe.specs.declared.Page.{Page}
use Rattle.scribe.specs.Put.{Puts, Room, Scribable, Written}
use Rattle.scribe.proofs.PutLaws.{Left, all_left, room_first, less_left, lines_few}
use Rattle.scribe.proofs.TableLaws.{present_to}

-- ---- the parts of a sheet's frames
abbrev header_of : Lent → List Frame
header_of l = Header l.counts.subjects l.counts.objects l.counts.roles ∷ []

abbrev assigned_of : Lent → List Frame
assigned_of l = present_to (assign_at l.counts.roles) (l.counts.subjects * l.counts.roles) l.assignment

abbrev permitted_of : Lent → List Frame
permitted_of l = present_to (permit_at l.counts.objects) (l.counts.roles * l.counts.objects) l.permission

abbrev separated_of : ℕ → List ℕ → List Frame
separated_of count separations = separates (take (2 * count) separations)

module _ (l : Lent) (count : ℕ) (separations : List ℕ) where
  abbrev line_count : ℕ
  line_count = length (opened (sheet_of l count separations))

  -- the frames of a sheet, and those from each part of it on
  abbrev pub from_end : List Frame
  from_end = closing line_count ∷ []

  abbrev pub from_separations : List Frame
  from_separations = separated_of count separations ++ from_end

  abbrev pub from_permissions : List Frame
  from_permissions = permitted_of l ++ from_separations

  abbrev pub from_assignments : List Frame
  from_assignments = assigned_of l ++ from_permissions

  abbrev pub in_order : List Frame
  in_order = header_of l ++ from_assignments

  in_order_lem : frames_in (sheet_of l count separations) ≡ in_order
  unfolding frames_in opened body sheet_of
  in_order_lem = rw (append_assoc, append_assoc)

  -- the lines of the parts before the end are those that it counts
  line_count_lem : length (header_of l) + length (assigned_of l) + length (permitted_of l) + length (separated_of count separations) ≡ line_count
  unfolding opened body sheet_of
  line_count_lem =
      omega (
        arith,
        length-append (assigned_of l) (permitted_of l ++ separated_of count separations),
        length-append (permitted_of l) (separated_of count separations),
      )

  -- of the lines of a sheet, which are to be written at the start of a text, these are left
  pub record Ahead (text : List ℕ) (left : List Frame) (page : Page) : Type 0 where
    pub start : MutBor (List ℕ)
    pub same : start.now ≡ text
    pub lines : Left in_order left (record { text = start; pen = record { at = 0; lines = 0 } }) page

  module _ {text : List ℕ} {page : Page} where
    pub ahead_room : (fs gs : List Frame) → Ahead text (fs ++ gs) page → Room fs page
    ahead_room fs gs a = room_first fs gs a.lines

    pub ahead_less : {fs gs : List Frame} {next : Page} → Ahead text (fs ++ gs) page → Puts fs page next → Ahead text gs next
    ahead_less a p = record { start = a.start; same = a.same; lines = less_left a.lines p }

  module _ {text : List ℕ} (ready : Scribable l count separations text) where
    -- the text, and the count of its lines, are small
    text_small : length (text_of (frames_in (sheet_of l count separations))) ≤ least_text
    unfolding write_sheet
    text_small = written_fits (sound_of l count separations ready.sized (omega (arith, ready.listed.few, ready.separations_long)) ready.listed)

    lines_small : line_count < 65536
    unfolding frames_in
    lines_small =
        omega (arith, text_small, lines_few (frames_in (sheet_of l count separations)), length-append (opened (sheet_of l count separations)) (closing line_count ∷ []))

    pub ahead_all : (start : MutBor (List ℕ)) → start.now ≡ text → Ahead text in_order (record { text = start; pen = record { at = 0; lines = 0 } })
    ahead_all start e =
        record {
          start = start;
          same = e;
          lines = all_left (record { fits = rw (← in_order_lem, e) (omega (arith, text_small, ready.text_long)); few = omega arith });
        }

    -- the line that is left is the end, and all others are counted
    module _ {page : Page} (a : Ahead text from_end page) where
      all_counted : page.pen.lines ≡ line_count
      all_counted =
          omega (
            arith,
            a.lines.count,
            line_count_lem,
            length-append (assigned_of l) from_permissions,
            length-append (permitted_of l) from_separations,
            length-append (separated_of count separations) from_end,
          )

      pub lines_bound : page.pen.lines < 65536
      lines_bound = rw all_counted (lines_small)

      end_is : closing page.pen.lines ≡ closing line_count
      end_is = ap closing all_counted

      pub end_room : Room (closing page.pen.lines ∷ []) page
      end_room = rw end_is a.lines.room

      pub all_written : {last : Page} {after : List ℕ} → Puts (closing page.pen.lines ∷ []) page last → after ≡ last.text.now →
          Written (sheet_of l count separations) text last.pen.at after
      unfolding write_sheet over
      all_written {last} p e =
          let frames = rw (← in_order_lem) at (a.lines.whole last (rw end_is at p)) in
          record {
            size = omega (arith, frames.place);
            text =
                e
                ∙ frames.text
                ∙ rw a.same (sets-eq (text_of (frames_in (sheet_of l count separations))) text 0 (omega (arith, text_small, ready.text_long)) ∙ rw zero-add);
          }
