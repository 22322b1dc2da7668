-- The longest shown chain: subjects and objects alternate in it and none stands twice, so it has at most one entity more than twice
-- the subjects, 97 of a sheet.
use Prim.Native.Nat.{ℕ, suc, ◌+◌, ◌*◌, ◌≤◌, ◌<◌}
use mathlib.Core.Path.{◌≡◌, refl}
use mathlib.Core.Logic.{inl, inr}
use mathlib.Core.List.{List, [], ◌∷◌}
use native.Mathlib.Decide.{dec_lt}
use native.Mathlib.Omega.{arith}
use lib.Dec.{lit≤}
use lib.ListN.{length}
use Rattle.tables.specs.declared.Counts.{Counts}
use Rattle.answers.specs.Sizes.{most_subjects}
use Rattle.tables.specs.Sheet.{sheet, Sheet, counts}
use Rattle.theory.specs.Chain.{Chain, alone, link, Best, Absent, nowhere, further, Distinct, empty, more}
use Rattle.theory.proofs.Distinct.{AllBelow, none, next, distinct_fits}
use Rattle.theory.proofs.Chains.{best_alone, shortest_distinct}
use Rattle.access.specs.Channel.{ChannelOf, Channel, TwoSided}
use Rattle.access.proofs.Channels.{two_sided}

-- ---- the numbers of a list that are below n
module _ (n : ℕ) where
  keep : {a : ℕ} → Dec (a < n) → List ℕ → List ℕ
  keep {a} (yes h) l = a ∷ l
  keep (no h) l = l

  low : List ℕ → List ℕ
  low [] = []
  low (a ∷ l) = keep (dec_lt a n) (low l)

  low_absent : {b : ℕ} (l : List ℕ) → Absent b l → Absent b (low l)
  unfolding low keep
  low_absent [] nowhere = nowhere
  low_absent {b} (a ∷ l) (further ne r) = go (dec_lt a n) (low_absent l r)
    where
      go : (d : Dec (a < n)) → Absent b (low l) → Absent b (keep d (low l))
      go (yes h) i = further ne i
      go (no h) i = i

  low_distinct : (l : List ℕ) → Distinct l → Distinct (low l)
  unfolding low keep
  low_distinct [] empty = empty
  low_distinct (a ∷ l) (more r d) = go (dec_lt a n) (low_distinct l d)
    where
      go : (d : Dec (a < n)) → Distinct (low l) → Distinct (keep d (low l))
      go (yes h) i = more (low_absent l r) i
      go (no h) i = i

  low_below : (l : List ℕ) → AllBelow n (low l)
  unfolding low keep
  low_below [] = none
  low_below (a ∷ l) = go (dec_lt a n) (low_below l)
    where
      go : (d : Dec (a < n)) → AllBelow n (low l) → AllBelow n (keep d (low l))
      go (yes h) i = next h i
      go (no h) i = i

  low_more : (a : ℕ) (l : List ℕ) → length (low l) ≤ length (low (a ∷ l))
  unfolding low keep
  low_more a l = go (dec_lt a n)
    where
      go : (d : Dec (a < n)) → length (low l) ≤ length (keep d (low l))
      go (yes h) = omega arith
      go (no h) = omega arith

  low_has : (a : ℕ) (l : List ℕ) → a < n → length (low (a ∷ l)) ≡ suc (length (low l))
  unfolding low keep
  low_has a l h = go (dec_lt a n)
    where
      go : (d : Dec (a < n)) → length (keep d (low l)) ≡ suc (length (low l))
      go (yes g) = refl
      go (no g) = absurd (g h)

-- ---- a chain has a subject at every second place at least
-- one that starts at a subject has at most twice as many entities as subjects, and any has at most one more
record Alternates (subjects x : ℕ) (l : List ℕ) : Type 0 where
  from_subject : x < subjects → length l ≤ 2 * length (low subjects l)
  from_any : length l ≤ 2 * length (low subjects l) + 1

module _ {c : Counts} {assigned : ℕ → ℕ → Type 0} {held : ℕ → ℕ → ℕ → Type 0} where
  alternates : {x y : ℕ} {l : List ℕ} → Chain (ChannelOf c assigned held) x y l → Alternates c.subjects x l
  alternates (alone {y}) =
      record { from_subject = λ h. omega (arith, low_has c.subjects y [] h); from_any = omega arith }
  alternates (link {x} {z} {l = l} ch t) = go (two_sided ch) (alternates t)
    where
      go : TwoSided c x z → Alternates c.subjects z l → Alternates c.subjects x (x ∷ l)
      go (inl s) r =
          let has = low_has c.subjects x l s.0 in
          record { from_subject = λ _. omega (arith, r.from_any); from_any = omega (arith, r.from_any) }
      go (inr s) r =
          record {
            from_subject = λ h. absurd (omega (arith, s.1));
            from_any = omega (arith, r.from_subject s.0, low_more c.subjects x l);
          }

  pub longest : {x y : ℕ} {l : List ℕ} → Best (ChannelOf c assigned held) x y l → length l ≤ 2 * c.subjects + 1
  longest {l = l} b =
      let d = low_distinct c.subjects l (shortest_distinct b.chain b.shortest) in
      omega (arith, (alternates b.chain).from_any, distinct_fits c.subjects (low c.subjects l) d (low_below c.subjects l))

-- no shown chain of a sheet has more than 97 entities: 48 subjects, and an object before, between and after them
pub at_most_97 : (t : Sheet) → t.counts.subjects ≤ most_subjects → (x y : ℕ) (l : List ℕ) → Best (Channel t) x y l → length l ≤ 97
at_most_97 t few x y l b = omega (arith, longest b)

-- as of 48 subjects, from one of them to itself
many : Sheet
many = sheet (counts 48 0 0) [] [] []

alone_fits : length {A = ℕ} (7 ∷ []) ≤ 97
unfolding many
alone_fits = at_most_97 many (lit≤ tt) 7 7 (7 ∷ []) best_alone
