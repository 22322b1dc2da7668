-- Document 01, "Answer numbers": "Where an answer is an enum, a definition gives this paper's number and values for each of its cases."
use Rattle.std.specs.Prelude.{Bool, List, [], ◌∷◌, ℕ, Result, Ok, Err}
use Rattle.answers.specs.declared.Told.{Told}
use Rattle.answers.specs.declared.refused.Refused.{Refused as Why}
use Rattle.answers.specs.declared.refused.Refused.TheVariants.{ShortBuffer, NoBytes, NoFrame, Misplaced, Oversized, OutOfRange, NotAscending, TooMany, NoEnd, NoEntity, TableByte, FlowByte, NoChain, RaggedList, FullTally}
use Rattle.answers.specs.Call.{Refusal, ◌if◌, told}

-- "no. | when"
abbrev pub number : Why → ℕ
-- "a lent buffer is shorter than its least length"
number ShortBuffer = 1
-- "a line has a byte outside 0-9 and a-f, an odd count of digits, no digits, or no line feed"
number NoBytes = 2
-- "first byte is not 01 to 05, or the frame's length is not its kind's"
number NoFrame = 3
-- "the first line is no header, or a later line is one"
number Misplaced = 4
-- "a count (not that of separations), a text or a transfer list is over its size"
number Oversized = 5
-- "a subject, role, object or entity is not below its count, or a mode or value is out of range"
number OutOfRange = 6
-- "lines or separations do not ascend strictly"
number NotAscending = 7
-- "more than 64 separations"
number TooMany = 8
-- "no end line, a wrong count in it, or bytes after it"
number NoEnd = 9
-- "an entity asked about is not below N"
number NoEntity = 10
-- "an assignment byte above 1 or a permission byte above 3"
number TableByte = 11
-- "a flow table byte above 1, or a 0 on its diagonal"
number FlowByte = 12
-- "no chain"
number NoChain = 13
-- "a flat transfer list whose length is not a multiple of 3"
number RaggedList = 15
-- "a tally count above 4,294,963,199"
number FullTally = 17

-- "0 | done", or the number of the refusal
abbrev pub code : {T : Type 0} → Result T Why → ℕ
code (Ok value) = 0
code (Err why) = number why

-- the answer number and its one value: "Every other number in its answer .. is 0"
abbrev pub told_of : Result ℕ Why → Told
told_of (Ok value) = told 0 value
told_of (Err why) = told (number why) 0

-- a list of rules, each refusal with its number
abbrev pub listed : List (Bool × Why) → List Refusal
listed [] = []
listed (rule ∷ rules) = (number rule.1 if rule.0) ∷ listed rules
