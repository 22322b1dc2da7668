-- `scribe::write_tables` meets its contract: part after part, there is room for the next, and in the end the text is whole.
use mathlib.Core.Path.{refl, sym, ◌∙◌}
use Rattle.std.proofs.Common.{rules}
use Rattle.tables.specs.Sheet.{lent_by}
use Rattle.text.specs.Content.{assign_at, permit_at}
use Rattle.scribe.proofs.SheetLaws.{Ahead, from_assignments, from_permissions, from_separations, from_end, ahead_all, ahead_room, ahead_less, lines_bound, end_room, all_written}
use Rattle.scribe.proofs.write_tables.Goals as goal
use Rattle.scribe.proofs.write_tables.Goals.{After-put_header, After-put_table, After-put_table-2, After-put_separated}

-- ---- what is left after each part
after_header : (c : After-put_header) → let a = c.args in
    Ahead (lent_by a.sheet) a.separations.count a.separations.pairs.now a.text.now (from_assignments (lent_by a.sheet) a.separations.count a.separations.pairs.now) c.put_header.new.self
after_header c = ahead_less _ _ _ (ahead_all _ _ _ c.requires _ refl) c.put_header.ensures.lines

after_assigned : (c : After-put_table) → let a = c.args in
    Ahead (lent_by a.sheet) a.separations.count a.separations.pairs.now a.text.now (from_permissions (lent_by a.sheet) a.separations.count a.separations.pairs.now) c.put_table.new.self
unfolding assign_at
after_assigned c =
    let before = after_header (goal.at.After-put_table c).After-put_header in
    ahead_less _ _ _ before
    (c.put_table.ensures.lines (assign_at c.args.sheet.counts.roles) (record { made = λ i byte f e. search rules; room = ahead_room _ _ _ _ _ before }))

after_permitted : (c : After-put_table-2) → let a = c.args in
    Ahead (lent_by a.sheet) a.separations.count a.separations.pairs.now a.text.now (from_separations (lent_by a.sheet) a.separations.count a.separations.pairs.now) c.put_table-2.new.self
unfolding permit_at
after_permitted c =
    let before = after_assigned (goal.at.After-put_table-2 c).After-put_table in
    ahead_less _ _ _ before
    (c.put_table-2.ensures.lines (permit_at c.args.sheet.counts.objects) (record { made = λ i byte f e. search rules; room = ahead_room _ _ _ _ _ before }))

after_separated : (c : After-put_separated) → let a = c.args in
    Ahead (lent_by a.sheet) a.separations.count a.separations.pairs.now a.text.now (from_end (lent_by a.sheet) a.separations.count a.separations.pairs.now) c.put_separated.new.self
after_separated c = ahead_less _ _ _ (after_permitted (goal.at.After-put_separated c).After-put_table-2) c.put_separated.ensures.lines

-- ---- so there is room for the next part
pub put_header-requires-clause-room : goal.put_header-requires-clause-room
put_header-requires-clause-room c = ahead_room _ _ _ _ _ (ahead_all _ _ _ c.requires _ refl)

pub put_table-requires-clause-frames : goal.put_table-requires-clause-frames
unfolding assign_at
put_table-requires-clause-frames c =
    let before = after_header (goal.at.put_table-requires-clause-frames c).After-put_header in
    (assign_at c.args.sheet.counts.roles, record { made = λ i byte f e. search rules; room = ahead_room _ _ _ _ _ before })

pub put_table-requires-2-clause-frames : goal.put_table-requires-2-clause-frames
unfolding permit_at
put_table-requires-2-clause-frames c =
    let before = after_assigned (goal.at.put_table-requires-2-clause-frames c).After-put_table in
    (permit_at c.args.sheet.counts.objects, record { made = λ i byte f e. search rules; room = ahead_room _ _ _ _ _ before })

pub put_separated-requires : goal.put_separated-requires
put_separated-requires c = ahead_room _ _ _ _ _ (after_permitted (goal.at.put_separated-requires c).After-put_table-2)

pub put_end-requires-clause-lines_bound : goal.put_end-requires-clause-lines_bound
put_end-requires-clause-lines_bound c = lines_bound _ _ _ c.requires (after_separated (goal.at.put_end-requires-clause-lines_bound c).After-put_separated)

pub put_end-requires-clause-room : goal.put_end-requires-clause-room
put_end-requires-clause-room c = end_room _ _ _ c.requires (after_separated (goal.at.put_end-requires-clause-room c).After-put_separated)

pub returns : goal.returns
returns c =
    let same =
    sym (c.put_end.ensures.same_text ∙ c.put_separated.ensures.same_text ∙ c.put_table-2.ensures.same_text ∙ c.put_table.ensures.same_text ∙ c.put_header.ensures.same_text)
    in
    all_written _ _ _ c.requires (after_separated (goal.at.returns c).After-put_separated) c.put_end.ensures.lines (search rules)
