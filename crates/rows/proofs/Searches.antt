-- The search for what x flows to: how it begins, what holds after one more spread, and that all is reached once there is none to go
-- on from.
use Prim.Native.Nat.{ℕ, ◌+◌, ◌≤◌, ◌<◌}
use mathlib.Core.Path.{◌≡◌, ◌∙◌}
use mathlib.Core.List.{List}
use native.Mathlib.Decide.{dec_lt}
use native.Mathlib.Omega.{arith}
use lib.ListN.{get_or}
use Rattle.theory.specs.Flow.{Flow, here, step}
use Rattle.theory.proofs.Flows.{flow_closed}
use Rattle.rows.specs.Search.{Among, Arranged, SearchBegun, Spread, SearchReached}
use Rattle.theory.specs.Laws.{Inside}

-- those before tail are reached, and with those before head all that they have a channel to
pub record Searching (ch : ℕ → ℕ → Type 0) (n x : ℕ) (order : List ℕ) (head tail : ℕ) : Type 0 where
  pub arranged : Arranged n order
  pub start : Among order tail x
  pub reached : (k : ℕ) → k < tail → Flow ch x (get_or order k 0)
  pub closed : (k : ℕ) → k < head → (z : ℕ) → ch (get_or order k 0) z → Among order tail z
  pub goes : head ≤ tail
  pub ends : tail ≤ n

pub searching_first : (ch : ℕ → ℕ → Type 0) {n x : ℕ} {order : List ℕ} → x < n → SearchBegun n x order → Searching ch n x order 0 1
searching_first ch {n} {x} {order} inside b =
    record {
      arranged = b.arranged;
      start = record { place = 0; low = omega arith; there = b.first };
      reached = λ k h. let e : k ≡ 0 = omega arith in rw (e, b.first) here;
      closed = λ k h. absurd (omega arith);
      goes = omega arith;
      ends = omega arith;
    }

module _ {ch : ℕ → ℕ → Type 0} {n x head tail : ℕ} {order : List ℕ} (inner : Inside n ch) (s : Searching ch n x order head tail) where
  -- ---- one more spread
  module _ {order' : List ℕ} {tail' : ℕ} (more : head < tail) (p : Spread ch n (get_or order head 0) n order order' tail tail') where
    still : {y : ℕ} → Among order tail y → Among order' tail' y
    still a = record { place = a.place; low = omega (arith, a.low, p.grows); there = p.older a.place a.low ∙ a.there }

    reached_next : (k : ℕ) → k < tail' → Dec (k < tail) → Flow ch x (get_or order' k 0)
    reached_next k l (yes h) = rw (p.older k h) (s.reached k h)
    reached_next k l (no h) = step (s.reached head more) (p.newer k (omega arith) l)

    -- what the new one has a channel to is not left behind
    taken : {z : ℕ} → ch (get_or order head 0) z → (a : Among order' n z) → Dec (a.place < tail') → Among order' tail' z
    taken c a (yes h) = record { place = a.place; low = h; there = a.there }
    taken c a (no h) = absurd (p.left a.place (omega arith) a.low (rw a.there c))

    closed_next : (k : ℕ) → k < head + 1 → Dec (k < head) → (z : ℕ) → ch (get_or order' k 0) z → Among order' tail' z
    closed_next k l (yes h) z c = still (s.closed k h z (rw (p.older k (omega arith)) at c))
    closed_next k l (no h) z c =
        let e : k ≡ head = omega arith in
        let a = p.arranged.stands z (inner _ _ c).1 in
        taken (rw (e, p.older head more) at c) a (dec_lt a.place tail')

    pub searching_next : Searching ch n x order' (head + 1) tail'
    searching_next =
        record {
          arranged = p.arranged;
          start = still s.start;
          reached = λ k l. reached_next k l (dec_lt k tail);
          closed = λ k l. closed_next k l (dec_lt k head);
          goes = omega (arith, p.grows);
          ends = p.ends;
        }

  -- ---- none to go on from
  module _ (empty : tail ≤ head) where
    onward : {a : ℕ} (p : Among order tail a) (b : ℕ) → ch a b → Among order tail b
    onward p b c = s.closed p.place (omega (arith, p.low)) b (rw p.there c)

    pub searching_done : SearchReached ch n x order tail
    searching_done =
        record {
          arranged = s.arranged;
          ends = s.ends;
          flows = λ y p. rw p.there at (s.reached p.place p.low);
          all = λ y f. flow_closed (Among order tail) s.start (λ a b p c. onward p b c) f;
        }
