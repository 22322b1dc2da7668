-- `parsing::frame_of` meets its contract: the length decides how many bytes there are.
use native.Mathlib.Omega.{arith}
use Rattle.digits.proofs.Pairs.{digits_at}
use Rattle.parsing.proofs.Parses.{of_six, of_eight, of_other}
use Rattle.parsing.proofs.frame_of.Goals as goal

pub byte_at-requires : goal.byte_at-requires
byte_at-requires c = digits_at _ 0 c.requires (omega arith) (omega arith)

pub byte_at-requires-in-6 : goal.byte_at-requires-in-6
byte_at-requires-in-6 c = digits_at _ 2 c.requires (omega arith) (omega arith)

pub byte_at-requires-in-6-2 : goal.byte_at-requires-in-6-2
byte_at-requires-in-6-2 c = digits_at _ 4 c.requires (omega arith) (omega arith)

pub byte_at-requires-in-8 : goal.byte_at-requires-in-8
byte_at-requires-in-8 c = digits_at _ 0 c.requires (omega arith) (omega arith)

pub byte_at-requires-in-8-2 : goal.byte_at-requires-in-8-2
byte_at-requires-in-8-2 c = digits_at _ 2 c.requires (omega arith) (omega arith)

pub byte_at-requires-in-8-3 : goal.byte_at-requires-in-8-3
byte_at-requires-in-8-3 c = digits_at _ 4 c.requires (omega arith) (omega arith)

pub byte_at-requires-in-8-4 : goal.byte_at-requires-in-8-4
byte_at-requires-in-8-4 c = digits_at _ 6 c.requires (omega arith) (omega arith)

pub returns-in-6 : goal.returns-in-6
returns-in-6 c = cc (of_six _ c.in-6.is)

pub returns-in-8 : goal.returns-in-8
returns-in-8 c = cc (of_eight _ c.in-8.is)

pub returns-in_default : goal.returns-in_default
returns-in_default c = of_other _ c.requires (λ h. omega arith) (λ h. omega arith)
