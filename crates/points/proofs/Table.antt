-- The thirteen worked points, proved of the sheet that reading makes of the printed text.
use Prim.Native.Nat.{ℕ, ◌<◌}
use mathlib.Core.Path.{◌≡◌, refl, sym, subst, ◌∙◌}
use mathlib.Core.Bool.{true, false, true≢false}
use mathlib.Core.List.{[], ◌∷◌}
use lib.Dec.{lit<}
use Rattle.tables.specs.Sheet.{Sheet}
use Rattle.theory.specs.Order.{only_there}
use Rattle.access.specs.Channel.{Channel}
use Rattle.change.specs.Change.{with_permission}
use Rattle.text.specs.Reading.{accepted, read_text}
use Rattle.text.specs.Worked.{worked_text}
use Rattle.text.proofs.AText.{worked, reads_worked}
use Rattle.transfers.specs.declared.Act.TheVariants.{Moves, NotPermitted}
use Rattle.transfers.specs.Acts.{verdict_bytes, after, none, next}
use Rattle.transfers.specs.Transfers.{to_subject, to_object, moves, barred}
use Rattle.points.specs.Points.{changed, Points}
use Rattle.points.proofs.Computed.{chainb}
use Rattle.points.proofs.ComputedSheet.{channelb, channel_of_test, test_of_channel, sheet_flows, sheet_flows_not, sheet_chain}
use Rattle.points.proofs.ComputedQuestions.{flowb, noneb, together, label_is, class_is}

-- a channel of the worked sheet, where the test says so
channel : (x y : ℕ) → x < 6 → y < 6 → channelb worked x y ≡ true → Channel worked x y
unfolding worked
channel x y hx hy e = channel_of_test worked x y (record { source = hx; target = hy; holds = e })

no_channel : (x y : ℕ) → channelb worked x y ≡ false → Channel worked x y → ⊥
no_channel x y e c = true≢false (sym (test_of_channel worked x y c).holds ∙ e)

-- "(0,0,2), (1,0,1), (1,1,2)": the channels that they go along
entity_0_to_3 : Channel worked 0 3
unfolding worked channelb
entity_0_to_3 = channel 0 3 (lit< tt) (lit< tt) refl

entity_3_to_1 : Channel worked 3 1
unfolding worked channelb
entity_3_to_1 = channel 3 1 (lit< tt) (lit< tt) refl

entity_1_to_4 : Channel worked 1 4
unfolding worked channelb
entity_1_to_4 = channel 1 4 (lit< tt) (lit< tt) refl

-- "these thirteen .., all as a single table": of the printed sheet's tables; `points` has them of what is read
pub worked_points : Points worked
unfolding worked with_permission chainb channelb flowb noneb together verdict_bytes after
worked_points =
    record {
      point_1 = sheet_flows worked (lit< tt) refl;
      point_2 = sheet_flows_not worked (lit< tt) refl;
      point_3 = sheet_flows worked (lit< tt) refl;
      point_4 = sheet_flows_not worked (lit< tt) refl;
      point_5 = sheet_chain worked (lit< tt) refl;
      point_6 = sheet_chain worked (lit< tt) refl;
      point_7 = label_is worked 4 (lit< tt) _ refl refl;
      point_8 = class_is (changed worked) 4 (lit< tt) 1 (lit< tt) refl refl;
      point_9 = only_there (sheet_flows (changed worked) (lit< tt) refl) (sheet_flows_not (changed worked) (lit< tt) refl);
      point_10 =
          record {
            acts = Moves 0 3 ∷ Moves 3 1 ∷ Moves 1 4 ∷ [];
            come =
                next (moves (to_object (lit< tt) (lit< tt) refl) entity_0_to_3)
                (next (moves (to_subject (lit< tt) (lit< tt) refl) entity_3_to_1) (next (moves (to_object (lit< tt) (lit< tt) refl) entity_1_to_4) none));
            told = refl;
            marks_left = refl;
          };
      point_11 =
          record {
            acts = Moves 1 4 ∷ Moves 3 1 ∷ Moves 0 3 ∷ [];
            come =
                next (moves (to_object (lit< tt) (lit< tt) refl) entity_1_to_4)
                (next (moves (to_subject (lit< tt) (lit< tt) refl) entity_3_to_1) (next (moves (to_object (lit< tt) (lit< tt) refl) entity_0_to_3) none));
            told = refl;
            marks_left = refl;
          };
      point_12 =
          record {
            acts = Moves 0 3 ∷ [];
            come = next (moves (to_object (lit< tt) (lit< tt) refl) entity_0_to_3) none;
            told = refl;
            marks_left = refl;
          };
      point_13 = λ marks.
          record {
            acts = NotPermitted ∷ [];
            come = next (barred (to_object (lit< tt) (lit< tt) refl) (no_channel 0 4 refl)) none;
            told = refl;
            marks_left = refl;
          };
    }

-- "Prove these thirteen from the specification's own text": whatever sheet reading makes of the printed text
pub points : (t : Sheet) → read_text worked_text ≡ accepted t → Points t
points t e = subst Points same worked_points
  where
    same : worked ≡ t
    same = cc (reads_worked, e)
