-- The lines of two entities, the line of a broken separation, and the whole output for two subjects apart, for a sheet of one subject, for the least sheet, and for a text that is refused.
use Prim.Native.Nat.{ℕ, zero, suc, ◌<◌}
use mathlib.Core.Path.{◌≡◌, refl, sym}
use mathlib.Core.List.{List, [], ◌∷◌}
use native.Mathlib.Omega.{arith}
use lib.Dec.{lit<, lit≤}
use lib.ListN.{get_or}
use Rattle.answers.specs.Rows.{Mark, one, none, count}
use Rattle.tables.specs.Sheet.{sheet, Sheet, counts}
use Rattle.theory.specs.Flow.{Flow, here, step}
use Rattle.theory.specs.Chain.{Chain, alone, link, ended, equal, Best}
use Rattle.theory.specs.Order.{Label}
use Rattle.theory.proofs.Flows.{flow_closed}
use Rattle.theory.proofs.Orders.{isolated}
use Rattle.digits.specs.Digit.{digit_byte, to_digits}
use Rattle.digits.specs.Line.{line_of}
use Rattle.digits.specs.Text.{codes}
use Rattle.access.specs.Channel.{Channel, reads, writes}
use Rattle.text.proofs.AText.{reading}
use Rattle.separations.specs.Judgement.{Broken, AllHold}
use Rattle.separations.proofs.ACase.{Hop, hop01, hop12, rises}
use Rattle.output.specs.Output.{EntityLine, EntityLines, none as start, next, VerdictLine, hold, broken, refusal_line, refusal, sheet_lines, Output}

-- ---- 0 flows to 1, and each to itself
data Up : ℕ → ℕ → Type 0 where
  stay_0 : Up 0 0
  stay_1 : Up 1 1
  up : Up 0 1

into_0 : {y : ℕ} → Up y 0 → y ≡ 0
into_0 stay_0 = refl

from_1 : {y : ℕ} → Up 1 y → y ≡ 1
from_1 stay_1 = refl

-- 0 flows on, and nothing flows into it: integrity alone, and a label of one
of_0 : EntityLine 2 Up 0 (0x81 ∷ 0 ∷ 0 ∷ 2 ∷ 1 ∷ [])
unfolding count
of_0 =
    record {
      class = 0;
      flags = 2;
      size = 1;
      named = record { below = lit< tt; member = record { there = stay_0; back = stay_0 }; smallest = λ z _ _. omega arith };
      greatest =
          record {
            secrecy = 0;
            integrity = 1;
            secret = none refl (λ g. omega (arith, g 1 (lit< tt) up));
            integral = one refl (λ y h r. into_0 r);
            summed = refl;
          };
      label = record { row = 1 ∷ 0 ∷ []; label = record { size = refl; bytes = byte }; counted = refl };
      bytes_are = refl;
    }
  where
    byte : (y : ℕ) → y < 2 → Mark (Up y 0) (get_or (1 ∷ 0 ∷ []) y 0)
    byte zero h = one refl stay_0
    byte (suc zero) h = none refl (λ r. omega (arith, into_0 r))
    byte (suc (suc y)) h = absurd (omega arith)

-- 1 flows nowhere else: secrecy alone, and a label of two
of_1 : EntityLine 2 Up 1 (0x81 ∷ 1 ∷ 1 ∷ 1 ∷ 2 ∷ [])
unfolding count
of_1 =
    record {
      class = 1;
      flags = 1;
      size = 2;
      named = record { below = lit< tt; member = record { there = stay_1; back = stay_1 }; smallest = λ z _ e. omega (arith, from_1 e.there) };
      greatest =
          record {
            secrecy = 1;
            integrity = 0;
            secret = one refl (λ y h r. from_1 r);
            integral = none refl (λ g. omega (arith, g 0 (lit< tt) up));
            summed = refl;
          };
      label = record { row = 1 ∷ 1 ∷ []; label = record { size = refl; bytes = byte }; counted = refl };
      bytes_are = refl;
    }
  where
    byte : (y : ℕ) → y < 2 → Mark (Up y 1) (get_or (1 ∷ 1 ∷ []) y 0)
    byte zero h = one refl up
    byte (suc zero) h = one refl stay_1
    byte (suc (suc y)) h = absurd (omega arith)

-- "A line 81 is entity, class name, flags .., label size": of 0 and 1, where 0 flows to 1 and each to itself
two_lines : EntityLines 2 Up 2 (codes "8100000201\n8101010102\n")
unfolding codes digit_byte to_digits line_of
two_lines = next (next start of_0) of_1

-- ---- 0 and 1 flow to each other
data Both : ℕ → ℕ → Type 0 where
  each : {x y : ℕ} → x < 2 → y < 2 → Both x y

-- "entity, class name": 1 is of the class named 0, keeps nothing to itself, and has a label of two
of_a_class : EntityLine 2 Both 1 (0x81 ∷ 1 ∷ 0 ∷ 0 ∷ 2 ∷ [])
unfolding count
of_a_class =
    record {
      class = 0;
      flags = 0;
      size = 2;
      named = record { below = lit< tt; member = record { there = each (lit< tt) (lit< tt); back = each (lit< tt) (lit< tt) }; smallest = λ z _ _. omega arith };
      greatest =
          record {
            secrecy = 0;
            integrity = 0;
            secret = none refl (λ g. omega (arith, g 0 (lit< tt) (each (lit< tt) (lit< tt))));
            integral = none refl (λ g. omega (arith, g 0 (lit< tt) (each (lit< tt) (lit< tt))));
            summed = refl;
          };
      label = record { row = 1 ∷ 1 ∷ []; label = record { size = refl; bytes = byte }; counted = refl };
      bytes_are = refl;
    }
  where
    byte : (y : ℕ) → y < 2 → Mark (Both y 1) (get_or (1 ∷ 1 ∷ []) y 0)
    byte zero h = one refl (each (lit< tt) (lit< tt))
    byte (suc zero) h = one refl (each (lit< tt) (lit< tt))
    byte (suc (suc y)) h = absurd (omega arith)

-- ---- the line of the verdict: of 2 to 0 and 0 to 2 the second, at position 1, is broken by a chain of three
nothing_from_2 : {a b : ℕ} → Hop a b → a ≡ 2 → ⊥
nothing_from_2 hop01 e = omega arith
nothing_from_2 hop12 e = omega arith

only_chain : {m : List ℕ} → Chain Hop 0 2 m → m ≡ 0 ∷ 1 ∷ 2 ∷ []
only_chain (link hop01 (link hop12 alone)) = refl
only_chain (link hop01 (link hop12 (link h t))) = absurd (nothing_from_2 h refl)

best : Best Hop 0 2 (0 ∷ 1 ∷ 2 ∷ [])
best =
    record {
      chain = link hop01 (link hop12 alone);
      shortest = λ m c. rw (only_chain c) (lit≤ tt);
      smallest = λ m c e. rw (only_chain c) (equal (equal (equal ended)));
    }

-- "else 01, position, count of entities in the chain, the chain": 01, position 1, three entities, the chain 0, 1, 2
broken_line : VerdictLine Hop 2 (2 ∷ 0 ∷ 0 ∷ 2 ∷ []) (0x82 ∷ 1 ∷ 1 ∷ 3 ∷ 0 ∷ 1 ∷ 2 ∷ [])
broken_line = broken (record { below = lit< tt; broken = flows_on hop01 hop12; before = first_holds }) best
  where
    flows_on : {a b c : ℕ} → Hop a b → Hop b c → Flow Hop a c
    flows_on h k = step (step here h) k

    first_holds : (j : ℕ) → j < 1 → Broken Hop (2 ∷ 0 ∷ 0 ∷ 2 ∷ []) j → ⊥
    first_holds zero h f = omega (arith, rises f)
    first_holds (suc j) h f = omega arith

-- ---- whole outputs
abbrev lone : Sheet
lone = sheet (counts 1 0 0) [] [] []

-- with no object there is no channel
no_channel : (x y : ℕ) → Channel lone x y → ⊥
no_channel x y (reads o l e h m) = omega arith
no_channel x y (writes o l h e m) = omega arith

-- the class of 0 is named 0, it has both flags, and its label has itself
line_0 : EntityLine 1 (Flow (Channel lone)) 0 (0x81 ∷ 0 ∷ 0 ∷ 3 ∷ 1 ∷ [])
unfolding count
line_0 =
    record {
      class = 0;
      flags = 3;
      size = 1;
      named = record { below = lit< tt; member = record { there = here; back = here }; smallest = λ z _ _. omega arith };
      greatest = isolated (no_channel 0) (λ y. no_channel y 0);
      label = record { row = 1 ∷ []; label = record { size = refl; bytes = byte }; counted = refl };
      bytes_are = refl;
    }
  where
    byte : (y : ℕ) → y < 1 → Mark (Flow (Channel lone) y 0) (get_or (1 ∷ []) y 0)
    byte zero h = one refl here
    byte (suc y) h = absurd (omega arith)

-- no separation is listed, so none is broken
none_listed : {ch : ℕ → ℕ → Type 0} (separations : List ℕ) → AllHold ch 0 separations
none_listed separations j h b = omega arith

-- one entity, and no separation
pub lone_output : Output (codes "01010000\n050001\n") (codes "8100000301\n8200\n")
unfolding reading codes digit_byte to_digits line_of
lone_output =
    sheet_lines (record { entity_lines = _; verdict_line = _; each = next start line_0; verdict = hold (none_listed []); whole = refl })

-- two subjects, and a separation between them that holds
abbrev pair : Sheet
pair = sheet (counts 2 0 0) [] [] (0 ∷ 1 ∷ [])

apart : (x y : ℕ) → Channel pair x y → ⊥
apart x y (reads o l e h m) = omega arith
apart x y (writes o l h e m) = omega arith

stays : {x y : ℕ} → Flow (Channel pair) x y → y ≡ x
stays {x} f = flow_closed (λ z. z ≡ x) refl (λ a b _ c. absurd (apart a b c)) f

pair_line : (x : ℕ) → x < 2 → (row : List ℕ) → Label 2 (Flow (Channel pair)) x row → count 1 row ≡ 1 → EntityLine 2 (Flow (Channel pair)) x (0x81 ∷ x ∷ x ∷ 3 ∷ 1 ∷ [])
pair_line x h row l e =
    record {
      class = x;
      flags = 3;
      size = 1;
      named = record { below = h; member = record { there = here; back = here }; smallest = λ z _ q. omega (arith, stays q.there) };
      greatest = isolated (apart x) (λ y. apart y x);
      label = record { row = row; label = l; counted = sym e };
      bytes_are = refl;
    }

-- "A line 82 is 00 if all hold": the whole output for two subjects and a separation from 0 to 1, which holds
pair_output : Output (codes "01020000\n040001\n050002\n") (codes "8100000301\n8101010301\n8200\n")
unfolding reading codes digit_byte to_digits line_of count
pair_output =
    sheet_lines
    (record {
      entity_lines = _;
      verdict_line = _;
      each = next (next start (pair_line 0 (lit< tt) (1 ∷ 0 ∷ []) (record { size = refl; bytes = of_first }) refl)) (pair_line 1 (lit< tt) (0 ∷ 1 ∷ []) (record { size = refl; bytes = of_second }) refl);
      verdict = hold only_pair_holds;
      whole = refl;
    })
  where
    of_first : (y : ℕ) → y < 2 → Mark (Flow (Channel pair) y 0) (get_or (1 ∷ 0 ∷ []) y 0)
    of_first zero h = one refl here
    of_first (suc zero) h = none refl (λ f. omega (arith, stays f))
    of_first (suc (suc y)) h = absurd (omega arith)

    of_second : (y : ℕ) → y < 2 → Mark (Flow (Channel pair) y 1) (get_or (0 ∷ 1 ∷ []) y 0)
    of_second zero h = none refl (λ f. omega (arith, stays f))
    of_second (suc zero) h = one refl here
    of_second (suc (suc y)) h = absurd (omega arith)

    only_pair_holds : AllHold (Channel pair) 1 (0 ∷ 1 ∷ [])
    only_pair_holds zero h f = omega (arith, stays f)
    only_pair_holds (suc j) h f = omega arith

-- no entity
least_output_lem : Output (codes "01000000\n050001\n") (codes "8200\n")
unfolding reading codes digit_byte to_digits line_of
least_output_lem =
    sheet_lines (record { entity_lines = _; verdict_line = _; each = start; verdict = hold (none_listed []); whole = refl })

-- an empty text has no end line: 9, at line 1
pub empty_output : Output [] (codes "80090001\n")
unfolding reading codes digit_byte to_digits line_of refusal_line
empty_output = refusal refl

-- "the line as two bytes, high byte first"
late_line : refusal_line 7 65281 ≡ codes "8007ff01\n"
unfolding codes digit_byte to_digits line_of refusal_line
late_line = refl
