-- `steps::Network::try_move` meets its contract: a byte of 1 is a channel.
use Rattle.std.proofs.Common.{sym, ◌∙◌}
use Rattle.std.proofs.lemmas.Bool.{eqb-true, eq-eqb}
use Rattle.steps.specs.Inner.{has_channel, lacks_channel}
use Rattle.steps.proofs.Network.try_move.Goals as goal

pub returns-then-holds : goal.returns-then-holds
returns-then-holds c =
    has_channel (record { source = c.requires.0; target = c.requires.1; byte = eqb-true _ _ (sym c.holds.ensures ∙ c.if-holds.true) })

pub returns-else-holds : goal.returns-else-holds
returns-else-holds c = lacks_channel (λ h. let e = eq-eqb _ _ h.byte in cc)
