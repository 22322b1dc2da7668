-- `effects::effect` meets its contract: the buffer that passed 1 has room for the effects.
use mathlib.Core.Path.{sym}
use Rattle.effects.proofs.Passed.{effect_long}
use Rattle.effects.proofs.effect.Goals as goal

pub fill-requires : goal.fill-requires
fill-requires c = effect_long _ _ _ _ (sym c.in_ok-change.ensures.judged)
