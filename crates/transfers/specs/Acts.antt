-- What acts do to marks, one after the other, whatever the transfers look like that they come from.
use Rattle.std.specs.Prelude.{ℕ, ◌+◌, ◌%◌, ◌^◌, ◌≡◌, List, [], ◌∷◌, map, get_or, set}
use Rattle.transfers.specs.declared.Act.{Act}
use Rattle.transfers.specs.declared.Act.TheVariants.{Moves, OutOfRange, NotPermitted}

-- "the verdict byte is 0 .. the byte is 10; if there is no channel, 16"
unfoldable pub verdict_byte : Act → ℕ
verdict_byte (Moves a b) = 0
verdict_byte OutOfRange = 10
verdict_byte NotPermitted = 16

-- a verdict byte for each
unfoldable pub verdict_bytes : List Act → List ℕ
unfolding verdict_byte
verdict_bytes acts = map verdict_byte acts

-- "its old mark plus the source's mark modulo 4,294,967,296"
unfoldable pub plus : ℕ → ℕ → ℕ
plus old source = (old + source) % 2 ^ 32

-- "the destination's mark becomes .."; "in both cases no mark changes"
unfoldable pub acted : Act → List ℕ → List ℕ
unfolding plus
acted (Moves a b) marks = set marks b (plus (get_or marks b 0) (get_or marks a 0))
acted OutOfRange marks = marks
acted NotPermitted marks = marks

-- "one after the other" (misreadings: not all "to the starting marks")
unfoldable pub after : List Act → List ℕ → List ℕ
unfolding acted
after [] marks = marks
after (t ∷ ts) marks = after ts (acted t marks)

-- each transfer of a list comes to the act at its place, for any kind of transfer: `comes` says what each comes to
pub data AllCome {T : Type 0} (comes : T → Act → Type 0) : List T → List Act → Type 0 where
  none : AllCome comes [] []
  next : {t : T} {act : Act} {ts : List T} {acts : List Act} → comes t act → AllCome comes ts acts → AllCome comes (t ∷ ts) (act ∷ acts)

-- what is asked of a kind of transfer: each comes to one act
abbrev pub OneAct : {T : Type 0} → (T → Act → Type 0) → Type 0
OneAct {T} comes = (t : T) (act act' : Act) → comes t act → comes t act' → act ≡ act'

-- "If the channel exists": and one that moves does so along a channel
abbrev pub Along : {T : Type 0} → (T → Act → Type 0) → (ℕ → ℕ → Type 0) → Type 0
Along {T} comes ch = (t : T) (a b : ℕ) → comes t (Moves a b) → ch a b
