-- A text that the laws of accepted texts are about.
use mathlib.Core.List.{[], ◌∷◌}
use Rattle.digits.specs.Text.{codes}
use Rattle.frames.specs.declared.Frame.TheVariants.{Header, End}
use Rattle.frames.specs.Check.{frames_of}
use Rattle.frames.proofs.ACase.{passing}
use Rattle.frames.proofs.Checks.{TextOf, accepted_frames}
use Rattle.frames.proofs.Verdicts.{verdict}

-- the least text consists of two frames
least_frames : TextOf (codes "01000000\n050001\n") (Header 0 0 0 ∷ End 0 1 ∷ [])
unfolding verdict frames_of
least_frames = accepted_frames (codes "01000000\n050001\n") passing.least
