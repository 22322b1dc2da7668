-- The row of an entity, as a part of one of two lent tables.
use Rattle.std.specs.Prelude.{ℕ, ◌+◌, ◌*◌, Bool, cond, ◌&&◌, List, eqb, leb, ltb, length}
use Rattle.std.specs.Borrow.{Bor}
use Rattle.answers.specs.Sizes.{most_entities, least_flow}
use Rattle.answers.specs.Part.{Part}

-- none of "a bad choice, number, count or length"
unfoldable pub can_choose : (before after : List ℕ) (n choice x : ℕ) → Bool
can_choose before after n choice x =
    ltb choice 2 && ltb x n && leb n most_entities && leb least_flow (length before) && leb least_flow (length after)

-- "as chosen by a 0 or 1"
abbrev pub chosen : (before after : Bor (List ℕ)) (choice : ℕ) → Bor (List ℕ)
chosen before after choice = cond (eqb choice 0) before after

-- "The row of an entity can be handed back from either the before table or the after table ..; a bad choice, number, count or
-- length gives the empty part at the start of the before table"
unfoldable pub ChosenRow : (before after : Bor (List ℕ)) (n choice x : ℕ) → Bor (List ℕ) → Type 0
ChosenRow before after n choice x r =
    cond (can_choose before.now after.now n choice x) (Part (chosen before after choice) (x * n) (x * n + n) r) (Part before 0 0 r)
