-- `channels::permissions::Permissions::may` meets its contract: what is found on the list of a subject is what the subject may do.
use Rattle.std.proofs.Common.{rules, IsTrue, ◌↔◌, ◌≡◌, ◌<◌, ◌∙◌, get_or, length, ℕ}
use Rattle.std.proofs.lemmas.Iterator.{YieldsList-from_slice}
use Rattle.std.proofs.lemmas.Iterator.Adapters.{serves_from_places}
use Rattle.std.proofs.lemmas.List.{get_or_read}
use Rattle.access.specs.Channel.{Has}
use Rattle.answers.specs.Rows.{at}
use Rattle.tables.specs.Sheet.{lent_by}
use Rattle.channels.specs.Inner.{roles_below}
use Rattle.channels.specs.Mode.{mode_of}
use Rattle.channels.proofs.Asking.{is_role, permits, permitted}
use Rattle.channels.proofs.permissions.Permissions.may.Goals as goal
use Rattle.channels.proofs.permissions.Permissions.may.Goals.{After-roles}

-- the list that is asked
listed : (c : After-roles) → c.roles.result.now ≡ roles_below (lent_by c.args.self.sheet) c.args.s c.args.self.sheet.counts.roles
listed c = c.roles.ensures ∙ (c.args.self.listed c.args.s c.requires.subject).1

pub any-requires-clause-callable : goal.any-requires-clause-callable
any-requires-clause-callable c =
    let roles = c.roles.result.now in
    let all = listed (goal.at.any-requires-clause-callable c).After-roles in
    serves_from_places (YieldsList-from_slice roles cc) (λ x q h. search rules)
    (λ x k h e.
    let here : x.now < c.args.self.sheet.counts.roles = rw (get_or_read roles k x.now h e 0) (is_role (lent_by c.args.self.sheet) c.args.s roles all k h) in
    search rules)

pub returns : goal.returns
returns c =
    let roles = c.roles.result.now in
    let all = listed (goal.at.returns c).After-roles in
    let found : IsTrue c.any.result ↔ ((k : ℕ) × (k < length roles) × Has (at c.args.self.sheet.permission.now c.args.self.sheet.counts.objects (get_or roles k 0) c.args.o) (mode_of c.args.wanted)) = search rules in (
      λ yes. permits (lent_by c.args.self.sheet) c.args.s roles all _ _ c.requires.subject c.requires.object (found.0 yes),
      λ may. found.1 (permitted (lent_by c.args.self.sheet) c.args.s roles all _ _ c.requires.subject c.requires.object may),
    )
