-- `channels::permissions::Permissions::channel` meets its contract, by the sides of the two entities.
use Rattle.channels.proofs.Sides.{if_write, if_read, not_subjects, not_objects}
use Rattle.tables.specs.Sheet.{lent_by}
use Rattle.channels.proofs.permissions.Permissions.channel.Goals as goal

pub returns-in-true-false : goal.returns-in-true-false
returns-in-true-false c =
    if_write (lent_by c.args.self.sheet) _ _ _ c.in-true-false.is-0 c.in-true-false.is-1 c.requires.1 c.may.ensures

pub returns-in-false-true : goal.returns-in-false-true
returns-in-false-true c =
    if_read (lent_by c.args.self.sheet) _ _ _ c.in-false-true.is-1 c.in-false-true.is-0 c.requires.0 c.may-in-false-true.ensures

pub returns-in-true-true : goal.returns-in-true-true
returns-in-true-true c = not_subjects (lent_by c.args.self.sheet) _ _ c.in-true-true.is-0 c.in-true-true.is-1

pub returns-in-false-false : goal.returns-in-false-false
returns-in-false-false c = not_objects (lent_by c.args.self.sheet) _ _ c.in-false-false.is-0 c.in-false-false.is-1
