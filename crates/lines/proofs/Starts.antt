-- Lines one after another: where the line that begins at a place ends, and where the next one begins.
use Prim.Native.Nat.{ℕ, zero, suc, ◌+◌, ◌-◌, min, ◌≤◌, ◌<◌}
use mathlib.Core.Path.{◌≡◌, refl, sym, ◌∙◌}
use mathlib.Core.Bool.{Bool, true, false, cond}
use mathlib.Core.List.{List, [], ◌∷◌, ◌++◌}
use native.Mathlib.Nat.{add-zero, add-suc}
use native.Mathlib.Numerals.{add-one}
use native.Mathlib.Decide.{ℕ_discrete, dec_lt}
use native.Mathlib.Omega.{arith}
use borrow.Author.Tests.{eq-eqb, ne_eqb, ltb-true, ltb-false}
use lib.Dec.{eqb, ltb}
use lib.ListN.{length, get_or, take, drop, length-drop}
use lib.Seq.{take_all, drop-length, drop-drop, take-add, get_or-drop}
use Rattle.std.specs.Prelude.{Some, None}
use Rattle.std.specs.List.{position, position_or_len}
use Rattle.std.proofs.lemmas.List.Recursion.{is_position_or_len}
use Rattle.digits.specs.Line.{Line, line, feed, no_line, joined, lines, line_size, size_of, line_start, line_end}
use Rattle.digits.proofs.Lines.{lines_joined}
use Rattle.lines.proofs.Places.{end_within}

-- the end of the line that begins at `at`
abbrev pub end_from : List ℕ → ℕ → ℕ
end_from t at = at + line_end (drop at t) 1

-- the beginning of the next one
abbrev pub next_from : List ℕ → ℕ → ℕ
next_from t at = at + line_start (drop at t) 2

-- a text from a place on
pub rest : (t : List ℕ) (at : ℕ) → take (length t - at) (drop at t) ≡ drop at t
rest t at = take_all (length t - at) (drop at t) (omega (arith, length-drop at t))

-- ---- the first line, byte by byte
pub first_fed : (b : ℕ) (t : List ℕ) → b ≡ feed → (line_end (b ∷ t) 1 ≡ 0) × (line_start (b ∷ t) 2 ≡ 1)
unfolding line_end line_start size_of line_size lines
first_fed b t e = rw (eq-eqb b feed e) (refl, refl)

pub first_more : (b : ℕ) (t : List ℕ) → (b ≡ feed → ⊥) → line_end (b ∷ t) 1 ≡ suc (line_end t 1)
unfolding line_end line_start size_of joined
first_more b t e = rw (lines_joined b t e) (go (lines t))
  where
    go : (ls : List Line) → 0 + length (get_or (joined b ls) 0 no_line).bytes ≡ suc (0 + length (get_or ls 0 no_line).bytes)
    go [] = refl
    go (l ∷ ls) = omega arith

nothing_ends : line_end [] 1 ≡ 0
unfolding line_end line_start lines size_of
nothing_ends = refl

-- so it ends at the first line feed, if there is one
first_end : (t : List ℕ) → line_end t 1 ≡ position_or_len (λ b. eqb b feed) t
first_end t = is_position_or_len (λ l. line_end l 1) (λ b. eqb b feed) nothing_ends (λ b l. step b l (ℕ_discrete b feed)) t
  where
    step : (b : ℕ) (l : List ℕ) → Dec (b ≡ feed) → line_end (b ∷ l) 1 ≡ cond (eqb b feed) 0 (1 + line_end l 1)
    step b l (yes e) = rw (eq-eqb b feed e) (first_fed b l e).0
    step b l (no e) = rw (ne_eqb b feed e) (first_more b l e ∙ omega arith)

module _ (t : List ℕ) where
  pub feed_found : (n : ℕ) → Some n ≡ position (λ b. eqb b feed) t → (n ≡ line_end t 1) × (n ≤ length t)
  feed_found n = go (ltb (position_or_len (λ b. eqb b feed) t) (length t)) refl
    where
      go : (x : Bool) → ltb (position_or_len (λ b. eqb b feed) t) (length t) ≡ x → Some n ≡ cond x (Some (position_or_len (λ b. eqb b feed) t)) None →
          (n ≡ line_end t 1) × (n ≤ length t)
      go true l e = let same : n ≡ position_or_len (λ b. eqb b feed) t = cc in (omega (arith, first_end t), omega (arith, ltb-true _ _ l))
      go false l e = absurd (cc)

  pub no_feed_found : None ≡ position (λ b. eqb b feed) t → length t ≡ line_end t 1
  no_feed_found = go (ltb (position_or_len (λ b. eqb b feed) t) (length t)) refl
    where
      go : (x : Bool) → ltb (position_or_len (λ b. eqb b feed) t) (length t) ≡ x → None ≡ cond x (Some (position_or_len (λ b. eqb b feed) t)) None →
          length t ≡ line_end t 1
      go true l e = absurd (cc)
      go false l e = omega (arith, first_end t, ltb-false _ _ l, end_within t 1)

-- where no text is left it ends at once
pub ends_last : (t : List ℕ) (at : ℕ) → at ≡ length t → end_from t at ≡ at
unfolding line_end line_start lines size_of
ends_last t at e = rw (e, drop-length) (omega arith)

-- the next one begins past the line feed, or where the text ends
start_more : (b : ℕ) (t : List ℕ) → (b ≡ feed → ⊥) → line_start (b ∷ t) 2 ≡ suc (line_start t 2)
unfolding line_start size_of line_size joined
start_more b t e = rw (lines_joined b t e) (go (lines t))
  where
    go : (ls : List Line) → size_of (take 1 (joined b ls)) ≡ suc (size_of (take 1 ls))
    go [] = refl
    go (l ∷ ls) = omega arith

abbrev FirstNext : List ℕ → Type 0
FirstNext t = (line_end t 1 < length t → line_start t 2 ≡ line_end t 1 + 1) × (length t ≤ line_end t 1 → line_start t 2 ≡ line_end t 1)

first_next : (t : List ℕ) → FirstNext t
unfolding line_end line_start lines size_of
first_next [] = (λ h. absurd (omega arith), λ h. refl)
first_next (b ∷ t) = go (ℕ_discrete b feed) (first_next t)
  where
    go : Dec (b ≡ feed) → FirstNext t → FirstNext (b ∷ t)
    go (yes e) rest = let f = first_fed b t e in (λ h. omega arith, λ h. omega arith)
    go (no e) rest =
        let end = first_more b t e in
        let next = start_more b t e in
        (λ h. omega (arith, rest.0 (omega arith)), λ h. omega (arith, rest.1 (omega arith)))

-- the next line begins past the line feed of this one, or where the text ends
pub next_begins : (t : List ℕ) (at : ℕ) → at ≤ length t → next_from t at ≡ min (length t) (end_from t at + 1)
next_begins t at h =
    go (dec_lt (line_end (drop at t) 1) (length (drop at t)))
  where
    go : Dec (line_end (drop at t) 1 < length (drop at t)) → next_from t at ≡ min (length t) (end_from t at + 1)
    go (yes l) = omega (arith, (first_next (drop at t)).0 l, length-drop at t)
    go (no l) = omega (arith, (first_next (drop at t)).1 (omega arith), length-drop at t, end_within (drop at t) 1)

-- ---- the line after the first
-- past the first line stand the others
first_dropped : (t : List ℕ) → lines (drop (size_of (take 1 (lines t))) t) ≡ drop 1 (lines t)
unfolding lines size_of line_size joined
first_dropped [] = refl
first_dropped (b ∷ t) = go (eqb b feed) (lines t) refl (first_dropped t)
  where
    go : (x : Bool) (ls : List Line) → lines t ≡ ls → lines (drop (size_of (take 1 ls)) t) ≡ drop 1 ls →
        lines (drop (size_of (take 1 (cond x (line [] true ∷ ls) (joined b ls)))) (b ∷ t)) ≡ drop 1 (cond x (line [] true ∷ ls) (joined b ls))
    go true ls e rest = e
    go false [] e rest = rest
    go false (l ∷ ls) e rest =
        let size : line_size (line (b ∷ l.bytes) l.ended) + 0 ≡ suc (line_size l + 0) = omega arith in
        rw size rest

sizes_append : (xs ys : List Line) → size_of (xs ++ ys) ≡ size_of xs + size_of ys
unfolding size_of
sizes_append [] ys = omega arith
sizes_append (x ∷ xs) ys = omega (arith, sizes_append xs ys)

-- where k lines end, the others stand, and one line more ends where the next one begins
next_size : (t : List ℕ) (k : ℕ) → lines (drop (size_of (take k (lines t))) t) ≡ drop k (lines t) →
    size_of (take (k + 1) (lines t)) ≡ next_from t (size_of (take k (lines t)))
unfolding line_start
next_size t k e = rw (take-add k 1 (lines t), sizes_append, e)

lines_from : (t : List ℕ) (k : ℕ) → lines (drop (size_of (take k (lines t))) t) ≡ drop k (lines t)
unfolding size_of line_start
lines_from t zero = refl
lines_from t (suc k) =
    let e = lines_from t k in
    let size : size_of (take (suc k) (lines t)) ≡ next_from t (size_of (take k (lines t))) = rw (← add-one k) (next_size t k e) in
    rw (size, ← drop-drop, first_dropped, e, drop-drop, add-one)

start_next : (t : List ℕ) (k : ℕ) → line_start t (suc (suc k)) ≡ next_from t (line_start t (suc k))
unfolding line_start
start_next t k = rw (← add-one k) (next_size t k (lines_from t k))

-- the end of line number k is that of the line that begins where it does
pub end_at : (t : List ℕ) (k : ℕ) → line_end t k ≡ end_from t (line_start t k)
unfolding line_end line_start size_of
end_at t zero = sym (ends_last t (length t) refl)
end_at t (suc k) = rw (lines_from t k, get_or-drop, add-zero) (omega arith)

-- past the text's end there is no further line
nothing_next : (t : List ℕ) → next_from t (length t) ≡ length t
unfolding line_start lines size_of
nothing_next t = rw (drop-length) (omega arith)

none_further : (t : List ℕ) (k j : ℕ) → line_start t (suc k) ≡ length t → line_start t (suc (k + j)) ≡ length t
none_further t k zero e = rw add-zero e
none_further t k (suc j) e = rw (add-suc, start_next, none_further t k j e) (nothing_next t)

-- ---- line by line, from line number 1
pub start_first_line : (t : List ℕ) → 0 ≡ line_start t 1
unfolding line_start size_of
start_first_line t = refl

pub start_step : (t : List ℕ) (k at next : ℕ) → 0 < k → at ≡ line_start t k → next ≡ next_from t at → next ≡ line_start t (k + 1)
start_step t zero at next some e n = absurd (omega arith)
start_step t (suc k) at next some e n = rw (add-one, start_next, ← e) n

pub start_last : (t : List ℕ) (k number : ℕ) → 0 < k → k ≤ number → line_start t k ≡ length t → line_start t number ≡ length t
start_last t zero number some h e = absurd (omega arith)
start_last t (suc k) number some h e =
    let split : number ≡ suc (k + (number - suc k)) = omega arith in
    rw split (none_further t k (number - suc k) e)

pub start_none : (t : List ℕ) (number : ℕ) → number ≡ 0 → length t ≡ line_start t number
unfolding line_start
start_none t number e = rw e
