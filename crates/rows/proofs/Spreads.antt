-- Laws of the list of all entities: two entities that change places, how it begins, and `Spread` past one that u has no channel to and
-- past one that it has.
use Prim.Native.Nat.{ℕ, ◌+◌, ◌≤◌, ◌<◌}
use mathlib.Core.Path.{◌≡◌, refl, sym, ap, ◌∙◌}
use mathlib.Core.List.{List}
use native.Mathlib.Decide.{ℕ_discrete}
use native.Mathlib.Omega.{arith}
use lib.ListN.{length, get_or, set, length-set}
use lib.Seq.{get_or-set_same, get_or-set_other}
use Rattle.std.proofs.lemmas.List.{get_or_default}
use borrow.Author.Count.{below_more}
use Rattle.std.specs.List.{SwappedAt}
use Rattle.rows.specs.Search.{Among, Arranged, SearchBegun, Spread}

-- ---- the entities at i and at j change places: they still stand where all entities stand
module _ {n i j : ℕ} {order order' : List ℕ} (a : Arranged n order) (first : i < n) (second : j < n)
    (long : length order' ≡ length order) (s : SwappedAt order order' i j) where
  entities : (k : ℕ) → k < n → Dec (k ≡ i) → Dec (k ≡ j) → get_or order' k 0 < n
  entities k h (yes e) q = rw (e, s.0 0) (a.entity j second)
  entities k h (no ne) (yes e) = rw (e, s.1 0) (a.entity i first)
  entities k h (no ne) (no ne') = rw (s.2 k 0 ne ne') (a.entity k h)

  stand : {y : ℕ} (p : Among order n y) → Dec (p.place ≡ i) → Dec (p.place ≡ j) → Among order' n y
  stand p (yes e) q = record { place = j; low = second; there = s.1 0 ∙ ap (λ (k : ℕ). get_or order k 0) (sym e) ∙ p.there }
  stand p (no ne) (yes e) = record { place = i; low = first; there = s.0 0 ∙ ap (λ (k : ℕ). get_or order k 0) (sym e) ∙ p.there }
  stand p (no ne) (no ne') = record { place = p.place; low = p.low; there = s.2 p.place 0 ne ne' ∙ p.there }

  pub arranged_swapped : Arranged n order'
  arranged_swapped =
      record {
        room = omega (arith, a.room);
        entity = λ k h. entities k h (ℕ_discrete k i) (ℕ_discrete k j);
        stands = λ y h. let p = a.stands y h in stand p (ℕ_discrete p.place i) (ℕ_discrete p.place j);
      }

-- ---- the list begins: each entity at its own place, and then x first
arranged_first : {n : ℕ} {order : List ℕ} → n ≤ length order → ((k : ℕ) → k < n → get_or order k 0 ≡ k) → Arranged n order
arranged_first room own =
    record { room = room; entity = λ k h. rw (own k h) h; stands = λ y h. record { place = y; low = h; there = own y h } }

pub begun_first : {n x : ℕ} (order order' : List ℕ) → x < n → n ≤ length order → ((k : ℕ) → k < n → get_or order k 0 ≡ k) →
    length order' ≡ length order → SwappedAt order order' 0 x → SearchBegun n x order'
begun_first {x = x} order order' inside room own long s =
    record { arranged = arranged_swapped (arranged_first room own) (omega arith) inside long s; first = s.0 0 ∙ own x inside }

-- two places that are exchanged by hand
module _ (xs : List ℕ) (i j : ℕ) (hi : i < length xs) (hj : j < length xs) where
  with_first : List ℕ
  with_first = set xs i (get_or xs j 0)

  second_in : j < length with_first
  unfolding with_first
  second_in = omega (arith, length-set xs i (get_or xs j 0))

  first_at : (d : ℕ) → Dec (i ≡ j) → get_or (set with_first j (get_or xs i 0)) i d ≡ get_or xs j d
  unfolding with_first
  first_at d (yes e) =
      ap (λ (k : ℕ). get_or (set (set xs i (get_or xs j 0)) j (get_or xs i 0)) k d) e ∙ get_or-set_same with_first j (get_or xs i 0) d second_in
      ∙ ap (λ (k : ℕ). get_or xs k 0) e ∙ get_or_default xs j 0 d hj
  first_at d (no ne) =
      get_or-set_other with_first j i (get_or xs i 0) d (λ e. ne e) ∙ get_or-set_same xs i (get_or xs j 0) d hi ∙ get_or_default xs j 0 d hj

  pub exchanged : SwappedAt xs (set (set xs i (get_or xs j 0)) j (get_or xs i 0)) i j
  unfolding with_first
  exchanged = (
    λ d. first_at d (ℕ_discrete i j),
    λ d. get_or-set_same with_first j (get_or xs i 0) d second_in ∙ get_or_default xs i 0 d hi,
    λ k d ni nj.
        get_or-set_other with_first j k (get_or xs i 0) d nj ∙ get_or-set_other xs i k (get_or xs j 0) d ni,
    λ d. rw (get_or_default xs j 0 d hj, get_or_default xs i 0 d hi) refl,
  )

-- ---- `Spread`
module _ {ch : ℕ → ℕ → Type 0} {n u tail : ℕ} {order : List ℕ} where
  module _ {order' : List ℕ} {end k : ℕ} (s : Spread ch n u k order order' tail end) where
    pub spread_pass : (ch u (get_or order' k 0) → ⊥) → Spread ch n u (k + 1) order order' tail end
    spread_pass no' =
        record {
          arranged = s.arranged;
          older = s.older;
          newer = s.newer;
          left = λ i l m. below_more (λ j. end ≤ j → ch u (get_or order' j 0) → ⊥) k (λ j h g. s.left j g h) (λ g. no') i m l;
          grows = s.grows;
          ends = omega (arith, s.ends);
        }

    module _ {order'' : List ℕ} (inside : k < n) (c : ch u (get_or order' k 0)) (long : length order'' ≡ length order')
        (w : SwappedAt order' order'' k end) where
      before : (i : ℕ) → i < end → get_or order'' i 0 ≡ get_or order' i 0
      before i h = w.2 i 0 (omega (arith, s.ends)) (omega arith)

      taken : (i : ℕ) → tail ≤ i → i < end + 1 → Dec (i ≡ end) → ch u (get_or order'' i 0)
      taken i l m (yes e) = rw (e, w.1 0) c
      taken i l m (no ne) = rw (before i (omega arith)) (s.newer i l (omega arith))

      -- what stood at `end` stands at k now, and was passed
      passed : (i : ℕ) → end + 1 ≤ i → i < k + 1 → Dec (i ≡ k) → ch u (get_or order'' i 0) → ⊥
      passed i l m (yes e) d = s.left end (omega arith) (omega arith) (rw (e, w.0 0) at d)
      passed i l m (no ne) d = s.left i (omega arith) (omega arith) (rw (w.2 i 0 ne (omega arith)) at d)

      pub spread_take : Spread ch n u (k + 1) order order'' tail (end + 1)
      spread_take =
          record {
            arranged = arranged_swapped s.arranged inside (omega (arith, s.ends)) long w;
            older = λ i l. before i (omega (arith, s.grows)) ∙ s.older i l;
            newer = λ i l m. taken i l m (ℕ_discrete i end);
            left = λ i l m. passed i l m (ℕ_discrete i k);
            grows = omega (arith, s.grows);
            ends = omega (arith, s.ends);
          }
