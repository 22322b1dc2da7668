-- "An accepted sheet read and written back", "written and read back": the tables between the two calls.
use Rattle.std.specs.Prelude.{ℕ, List}
use Rattle.answers.specs.declared.Told.{Told}
use Rattle.tables.specs.Sheet.{Lent, lent, Sheet, sheet_of}
use Rattle.sheet.specs.Read.{ReadResult}
use Rattle.sheet.specs.Write.{Writes}

-- the tables in the buffers that reading has filled
abbrev pub tables_in : ReadResult → Lent
tables_in result = lent result.reading.counts result.tables.assignment result.tables.permission

-- the sheet in them
abbrev pub sheet_read : ReadResult → Sheet
sheet_read result = sheet_of (tables_in result) result.reading.separations result.tables.separations

-- "read and written back": what was read is written
abbrev pub WritesRead : ReadResult → List ℕ → Told × List ℕ → Type 0
WritesRead result = Writes (tables_in result) result.reading.separations result.tables.separations
