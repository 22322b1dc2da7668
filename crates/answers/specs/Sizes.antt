-- Document 01, "Sizes": the most of each thing, and the least lent length of each buffer, "whatever the counts".
use Rattle.std.specs.Prelude.{ℕ}

-- "subjects S | 48"
abbrev pub most_subjects : ℕ
most_subjects = 48

-- "objects O | 64"
abbrev pub most_objects : ℕ
most_objects = 64

-- "roles R | 48"
abbrev pub most_roles : ℕ
most_roles = 48

-- "separations | 64"
abbrev pub most_separations : ℕ
most_separations = 64

-- "entities N = S + O | 112"
abbrev pub most_entities : ℕ
most_entities = 112

-- "sheet text, bytes | 44,240": the most to be read
abbrev pub most_text : ℕ
most_text = 44240

-- "transfers in a rehearsal | 4,096"
abbrev pub most_transfers : ℕ
most_transfers = 4096

-- "flat bytes, three each (5 above 12,288 bytes)"
abbrev pub most_transfer_bytes : ℕ
most_transfer_bytes = 12288

-- "Least lent lengths, whatever the counts: assignment 2,304"
abbrev pub least_assignment : ℕ
least_assignment = 2304

-- "permission 3,072"
abbrev pub least_permission : ℕ
least_permission = 3072

-- "separations 128"
abbrev pub least_separations : ℕ
least_separations = 128

-- "flow 12,544"
abbrev pub least_flow : ℕ
least_flow = 12544

-- "chain 112"
abbrev pub least_chain : ℕ
least_chain = 112

-- "label 112"
abbrev pub least_label : ℕ
least_label = 112

-- "effect 112"
abbrev pub least_effect : ℕ
least_effect = 112

-- "text to be written 44,240"
abbrev pub least_text : ℕ
least_text = 44240

-- "marks 112 numbers of 32 bits"
abbrev pub least_marks : ℕ
least_marks = 112

-- "verdict bytes 4,096"
abbrev pub least_verdicts : ℕ
least_verdicts = 4096
