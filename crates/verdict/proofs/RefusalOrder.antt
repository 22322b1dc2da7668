-- Which number wins, in tables of one subject, one object and one role.
use Prim.Native.Nat.{ℕ}
use mathlib.Core.Path.{◌≡◌, refl}
use mathlib.Core.List.{List, [], ◌∷◌, ◌++◌}
use lib.ListN.{replicate}
use Rattle.answers.specs.Call.{first_refusal, ◌then◌, each_below}
use Rattle.answers.specs.Rows.{any_below}
use Rattle.tables.specs.Sheet.{Lent, lent, counts}
use Rattle.tables.specs.Refusals.{size_refusals, used_refusals, sheet_refusals, pair_refusals, separation_refusals}
use Rattle.verdict.specs.Chain.{chain_refusals}
use Rattle.verdict.specs.Judge.{judge_refusals}

-- so many subjects, and the assignment byte
tables : ℕ → ℕ → Lent
tables s a = lent (counts s 1 1) (a ∷ replicate 2303 9) (2 ∷ replicate 3071 9)

chain : List ℕ
chain = replicate 112 9

-- these pairs, and what the buffer has behind them
pairs : List ℕ → List ℕ
pairs l = l ++ replicate 128 9

-- "1, 5, 11; .. then 10"
record ChainOrder : Type 0 where
  short_chain : first_refusal (chain_refusals (tables 1 1) 1 1 (replicate 111 9)) ≡ 1
  one_before_five : first_refusal (chain_refusals (tables 49 2) 9 9 []) ≡ 1
  five_before_eleven : first_refusal (chain_refusals (tables 49 2) 200 200 chain) ≡ 5
  eleven_before_ten : first_refusal (chain_refusals (tables 1 2) 2 2 chain) ≡ 11
  ten_for_the_first : first_refusal (chain_refusals (tables 1 1) 2 1 chain) ≡ 10
  ten_for_the_second : first_refusal (chain_refusals (tables 1 1) 1 2 chain) ≡ 10
  nothing : first_refusal (chain_refusals (tables 1 1) 1 1 chain) ≡ 0

chain_order : ChainOrder
unfolding first_refusal ◌then◌ any_below sheet_refusals size_refusals used_refusals chain_refusals tables chain
chain_order =
    record { short_chain = refl; one_before_five = refl; five_before_eleven = refl; eleven_before_ten = refl; ten_for_the_first = refl; ten_for_the_second = refl; nothing = refl }

-- "1, 5, 11; then .. 8, and then the first faulty pair, 6 before 7"
record JudgeOrder : Type 0 where
  one_before_five : first_refusal (judge_refusals (tables 49 2) 65 (pairs []) []) ≡ 1
  short_chain : first_refusal (judge_refusals (tables 1 1) 0 (pairs []) (replicate 111 9)) ≡ 1
  short_list : first_refusal (judge_refusals (tables 49 2) 0 [] chain) ≡ 1
  five_before_eleven : first_refusal (judge_refusals (tables 49 2) 65 (pairs []) chain) ≡ 5
  eleven_before_eight : first_refusal (judge_refusals (tables 1 2) 65 (pairs []) chain) ≡ 11
  eight_before_six : first_refusal (judge_refusals (tables 1 1) 65 (pairs (0 ∷ 2 ∷ [])) chain) ≡ 8
  six_before_seven : first_refusal (judge_refusals (tables 1 1) 2 (pairs (1 ∷ 0 ∷ 0 ∷ 2 ∷ [])) chain) ≡ 6
  first_faulty_pair : first_refusal (judge_refusals (tables 1 1) 3 (pairs (1 ∷ 0 ∷ 1 ∷ 0 ∷ 2 ∷ 2 ∷ [])) chain) ≡ 7
  nothing : first_refusal (judge_refusals (tables 1 1) 2 (pairs (0 ∷ 1 ∷ 1 ∷ 0 ∷ [])) chain) ≡ 0

judge_order : JudgeOrder
unfolding first_refusal ◌then◌ each_below any_below sheet_refusals size_refusals used_refusals pair_refusals separation_refusals judge_refusals tables chain pairs
judge_order =
    record {
      one_before_five = refl;
      short_chain = refl;
      short_list = refl;
      five_before_eleven = refl;
      eleven_before_eight = refl;
      eight_before_six = refl;
      six_before_seven = refl;
      first_faulty_pair = refl;
      nothing = refl;
    }
