-- What the functions of the second pass tell each other. No promise: it only ties functions together.
use Rattle.std.specs.Prelude.{ℕ, ◌*◌, ◌^◌, ◌≤◌, ◌<◌, ◌≡◌, Ok, drop}
use Rattle.answers.specs.Call.{first_refusal}
use Rattle.answers.specs.Sizes.{most_separations}
use Rattle.tables.specs.Sheet.{CountsFit, Sheet, lent, sheet_of}
use Rattle.frames.specs.declared.Frame.{Frame}
use Rattle.frames.specs.declared.Passed.{Passed}
use Rattle.frames.specs.Check.{start, next, line_refusals}
use Rattle.text.specs.Content.{add}
use Rattle.reader.specs.Fill.{Tables}

-- the sheet that tables hold in the parts that k uses
abbrev pub held : Passed → Tables → Sheet
held k t = sheet_of (lent k.counts t.assignment t.permission) k.separations t.separations

-- how many bytes of each table k uses
abbrev pub assignment_used : Passed → ℕ
assignment_used k = k.counts.subjects * k.counts.roles

abbrev pub permission_used : Passed → ℕ
permission_used k = k.counts.roles * k.counts.objects

abbrev pub separations_used : Passed → ℕ
separations_used k = 2 * k.separations

-- counts within their sizes, and nothing known before the first line
pub record Within (k : Passed) : Type 0 where
  pub counts_fit : CountsFit k.counts
  pub separations : k.separations ≤ most_separations
  pub fresh : k.lines ≡ 0 → k ≡ start

-- a frame that passes after the lines of which k is known, few enough to be counted on
pub record Passes (k : Passed) (f : Frame) : Type 0 where
  pub within : Within k
  pub few_lines : k.lines < 2 ^ 63
  pub fine : first_refusal (line_refusals k (Ok f)) ≡ 0

-- the tables came to hold `said` in the parts that k uses, and nothing past them changed
pub record Holds (k : Passed) (said : Sheet) (before after : Tables) : Type 0 where
  pub content : held k after ≡ said
  pub assignment_past : drop (assignment_used k) after.assignment ≡ drop (assignment_used k) before.assignment
  pub permission_past : drop (permission_used k) after.permission ≡ drop (permission_used k) before.permission
  pub separations_past : drop (separations_used k) after.separations ≡ drop (separations_used k) before.separations

-- a frame was stored
abbrev pub FrameStored : Passed → Frame → Tables → Tables → Type 0
FrameStored k f before = Holds (next k f) (add (held k before) f) before
