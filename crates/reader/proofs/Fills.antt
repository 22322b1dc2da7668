-- The second pass, turn by turn: the tables hold what was read, and the rest of the text adds up to what the whole text says.
use Prim.Native.Nat.{ℕ, ◌+◌, ◌-◌, ◌≤◌, ◌<◌, ◌^◌}
use mathlib.Core.Path.{◌≡◌, ap, refl, sym, subst, ◌∙◌}
use mathlib.Core.List.{List, [], ◌∷◌, ◌++◌}
use native.Mathlib.Omega.{arith}
use lib.ListN.{length, take, drop, take-append-drop}
use lib.Seq.{drop-drop, length-take-le}
use borrow.Author.Tests.{ltb-false}
use Rattle.std.specs.Prelude.{Ok, Err, IsOk}
use Rattle.answers.specs.declared.refused.Refused.{Refused as Why}
use Rattle.answers.specs.Rows.{over}
use Rattle.tables.specs.Sheet.{Sheet, sheet_of}
use Rattle.frames.specs.declared.Frame.{Frame}
use Rattle.frames.specs.declared.Frame.TheVariants.{Header, Assign, Permit, Separate, End}
use Rattle.frames.specs.Frame.{Parsed}
use Rattle.frames.specs.declared.Passed.{Passed}
use Rattle.frames.specs.Check.{start, next, misplaced, Accepted, check, parsed_lines, frames_of}
use Rattle.frames.proofs.Checks.{Fine, of_fine, line_passed, frame_passed, err_refused, few_lines}
use Rattle.frames.proofs.Ranges.{header_fits, separate_room}
use Rattle.text.specs.Content.{blank, add_all, content_of}
use Rattle.reader.specs.Fill.{Tables, LongTables, TablesFilled}
use Rattle.reader.specs.Inner.{held, assignment_used, permission_used, separations_used, Within, Passes, FrameStored}
use Rattle.reader.proofs.Stores.{assignment_room, permission_room}

-- b are the tables where these lines are left, and b₀ as they were lent
pub record Filling (t : List ℕ) (b₀ b : Tables) (k : Passed) (rest : List Parsed) : Type 0 where
  pub left : check k rest ≡ Accepted
  pub said : add_all (held k b) (frames_of rest) ≡ content_of (frames_of (parsed_lines t))
  pub assignment_past : drop (assignment_used k) b.assignment ≡ drop (assignment_used k) b₀.assignment
  pub permission_past : drop (permission_used k) b.permission ≡ drop (permission_used k) b₀.permission
  pub separations_past : drop (separations_used k) b.separations ≡ drop (separations_used k) b₀.separations
  pub assignment_length : length b.assignment ≡ length b₀.assignment
  pub permission_length : length b.permission ≡ length b₀.permission
  pub separations_length : length b.separations ≡ length b₀.separations
  pub within : Within k
  pub some_lines : k.lines + length rest ≤ length t

pub filling_start : (t : List ℕ) (b : Tables) (k : Passed) → k ≡ start → check start (parsed_lines t) ≡ Accepted → Filling t b b k (parsed_lines t)
unfolding start blank content_of sheet_of
filling_start t b k e h =
    subst (λ (m : Passed). Filling t b b m (parsed_lines t)) (sym e)
    (record {
      left = h;
      said = refl;
      assignment_past = refl;
      permission_past = refl;
      separations_past = refl;
      assignment_length = refl;
      permission_length = refl;
      separations_length = refl;
      within = record { counts_fit = record { subjects = omega arith; objects = omega arith; roles = omega arith }; separations = omega arith; fresh = λ _. refl };
      some_lines = omega (arith, few_lines t);
    })

-- ---- from what is known before a line to what is known after it
-- the used parts only grow, by one line
record Grows (k m : Passed) : Type 0 where
  assignment : assignment_used k ≤ assignment_used m
  permission : permission_used k ≤ permission_used m
  separations : separations_used k ≤ separations_used m
  one_more : m.lines ≤ k.lines + 1

module _ (k : Passed) (w : Within k) where
  grows_frame : (f : Frame) → Fine k f → Grows k (next k f)
  unfolding next misplaced start
  grows_frame (Header s o r) p =
      let e : k ≡ start = w.fresh (let z : k.lines ≤ 0 = ltb-false 0 k.lines p.in_place in omega arith) in
      subst (λ (m : Passed). Grows m (next m (Header s o r))) (sym e)
      (record { assignment = omega arith; permission = omega arith; separations = omega arith; one_more = omega arith })
  grows_frame (Assign s r) p = record { assignment = omega arith; permission = omega arith; separations = omega arith; one_more = omega arith }
  grows_frame (Permit r o m) p = record { assignment = omega arith; permission = omega arith; separations = omega arith; one_more = omega arith }
  grows_frame (Separate x y) p = record { assignment = omega arith; permission = omega arith; separations = omega arith; one_more = omega arith }
  grows_frame (End v l) p = record { assignment = omega arith; permission = omega arith; separations = omega arith; one_more = omega arith }

  within_frame : (f : Frame) → Fine k f → Within (next k f)
  unfolding next
  within_frame (Header s o r) p =
      let x = (header_fits s o r).0 p.not_oversized in
      record { counts_fit = record { subjects = x.0; objects = x.1; roles = x.2 }; separations = w.separations; fresh = λ z. absurd (omega arith) }
  within_frame (Assign s r) p =
      record { counts_fit = w.counts_fit; separations = w.separations; fresh = λ z. absurd (omega arith) }
  within_frame (Permit r o m) p =
      record { counts_fit = w.counts_fit; separations = w.separations; fresh = λ z. absurd (omega arith) }
  within_frame (Separate x y) p =
      record {
        counts_fit = w.counts_fit;
        separations = omega (arith, (separate_room k x y).0 p.not_too_many);
        fresh = λ z. absurd (omega arith);
      }
  within_frame (End v l) p =
      record { counts_fit = w.counts_fit; separations = w.separations; fresh = λ z. absurd (omega arith) }

-- ---- one turn
drop_further : (m n : ℕ) (a b : List ℕ) → m ≤ n → drop m a ≡ drop m b → drop n a ≡ drop n b
drop_further m n a b h e =
    let s : m + (n - m) ≡ n = omega arith in
    ap (λ (i : ℕ). drop i a) (sym s) ∙ sym (drop-drop (n - m) m a) ∙ ap (drop (n - m)) e ∙ drop-drop (n - m) m b ∙ ap (λ (i : ℕ). drop i b) s

kept : (n : ℕ) (a b : List ℕ) → n ≤ length a → drop n a ≡ drop n b → a ≡ over (take n a) b
unfolding over
kept n a b h e = sym (take-append-drop n a) ∙ ap (λ (l : List ℕ). take n a ++ l) (e ∙ ap (λ (m : ℕ). drop m b) (sym (length-take-le n a h)))

parts_kept : (t : List ℕ) (b₀ b : Tables) (k : Passed) (rest : List Parsed) → Filling t b₀ b k rest → LongTables b₀ → TablesFilled (held k b) b₀ b
unfolding sheet_of
parts_kept t b₀ b k rest s long =
    let a-fits : assignment_used k ≤ length b.assignment = omega (arith, assignment_room k s.within, s.assignment_length, long.assignment_long) in
    let p-fits : permission_used k ≤ length b.permission = omega (arith, permission_room k s.within, s.permission_length, long.permission_long) in
    let q-fits : separations_used k ≤ length b.separations = omega (arith, s.within.separations, s.separations_length, long.separations_long) in
    record {
      assignment_filled = kept (assignment_used k) _ _ a-fits s.assignment_past;
      permission_filled = kept (permission_used k) _ _ p-fits s.permission_past;
      separations_filled = kept (separations_used k) _ _ q-fits s.separations_past;
    }

module _ (t : List ℕ) (b₀ b : Tables) (k : Passed) (rest : List Parsed) (s : Filling t b₀ b k rest) where
  -- each line of an accepted text is a frame
  pub is_frame : (line : Parsed) (more : List Parsed) → rest ≡ line ∷ more → IsOk line
  is_frame (Ok f) more here = refl
  is_frame (Err why) more here = absurd (err_refused k why (line_passed k (Err why) more (ap (check k) (sym here) ∙ s.left)).0)

  module _ (line : Parsed) (more : List Parsed) (f : Frame) (here : rest ≡ line ∷ more) (is : line ≡ Ok f) where
    frame_here : rest ≡ Ok f ∷ more
    frame_here = here ∙ rw is

    at_line : Fine k f × (check (next k f) more ≡ Accepted)
    at_line = frame_passed k f more (ap (check k) (sym frame_here) ∙ s.left)

    pub line_passes : length t < 2 ^ 63 → Passes k f
    line_passes short = record { within = s.within; few_lines = omega (arith, s.some_lines); fine = of_fine k f at_line.0 }

    pub filling_next : (m : Passed) (b' : Tables) → m ≡ next k f → FrameStored k f b b' →
        length b'.assignment ≡ length b.assignment → length b'.permission ≡ length b.permission → length b'.separations ≡ length b.separations →
        Filling t b₀ b' m more
    unfolding add_all frames_of
    filling_next m b' known w la lp lq =
        let g = grows_frame k s.within f at_line.0 in
        subst (λ (z : Passed). Filling t b₀ b' z more) (sym known)
        (record {
          left = at_line.1;
          said =
              ap (λ (u : Sheet). add_all u (frames_of more)) w.content
              ∙ ap (λ (l : List Parsed). add_all (held k b) (frames_of l)) (sym frame_here)
              ∙ s.said;
          assignment_past = w.assignment_past ∙ drop_further _ _ _ _ g.assignment s.assignment_past;
          permission_past = w.permission_past ∙ drop_further _ _ _ _ g.permission s.permission_past;
          separations_past = w.separations_past ∙ drop_further _ _ _ _ g.separations s.separations_past;
          assignment_length = la ∙ s.assignment_length;
          permission_length = lp ∙ s.permission_length;
          separations_length = lq ∙ s.separations_length;
          within = within_frame k s.within f at_line.0;
          some_lines = omega (arith, g.one_more, ap length here, s.some_lines);
        })

  pub still_long : LongTables b₀ → LongTables b
  still_long l =
      record {
        assignment_long = omega (arith, l.assignment_long, s.assignment_length);
        permission_long = omega (arith, l.permission_long, s.permission_length);
        separations_long = omega (arith, l.separations_long, s.separations_length);
      }

  -- no line is left
  pub filling_done : rest ≡ [] → LongTables b₀ → TablesFilled (content_of (frames_of (parsed_lines t))) b₀ b
  unfolding add_all frames_of
  filling_done done long = subst (λ (u : Sheet). TablesFilled u b₀ b) (rw done at s.said) (parts_kept t b₀ b k rest s long)
