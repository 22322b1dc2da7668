-- What a question has that no refusal met, and that one on a sound table meets none.
use Prim.Native.Nat.{ℕ, ◌<◌}
use mathlib.Core.Path.{◌≡◌, refl}
use mathlib.Core.Bool.{Bool, false}
use mathlib.Core.List.{List}
use borrow.Author.Tests.{leb-false, lt-leb}
use Rattle.answers.specs.Call.{first_refusal, ◌then◌}
use Rattle.answers.proofs.Calls.{none_left, passed, pass, passed_then, pass_then}
use Rattle.tables.specs.FlowTable.{flow_refusals, entity_refusals, pair_asked_refusals, SoundFlow}
use Rattle.questions.specs.Questions.{both_asked_refusals}
use Rattle.labels.specs.Inner.{Asked}
use Rattle.tables.proofs.FlowTables.{flow_numbered, flow_passed, flow_pass}

pub asked_passed : (short : Bool) (n : ℕ) (table : List ℕ) (x : ℕ) → first_refusal (flow_refusals short n table then entity_refusals n x) ≡ 0 →
    (short ≡ false) × Asked n table x
unfolding entity_refusals
asked_passed short n table x e =
    let p = passed_then (flow_refusals short n table) _ (flow_numbered short n table) e in
    let f = flow_passed short n table p.0 in
    (f.0, record { accepted = f.1; below = leb-false _ _ (passed _ _ _ tt p.1).0 })

pub both_passed : (n : ℕ) (table : List ℕ) (x y : ℕ) → first_refusal (both_asked_refusals n table x y) ≡ 0 → (x < n) × (y < n)
unfolding both_asked_refusals pair_asked_refusals
both_passed n table x y e =
    let p = passed_then (flow_refusals false n table) _ (flow_numbered false n table) e in
    let first = passed _ _ _ tt p.1 in
    let second = passed _ _ _ tt first.1 in
    (leb-false _ _ first.0, leb-false _ _ second.0)

-- "Questions on a flow table are defined by its bytes alone": if these are sound, x below N and no buffer short, one on x is not refused
pub asked_pass : (n : ℕ) (table : List ℕ) → SoundFlow n table → (short : Bool) → short ≡ false → (x : ℕ) → x < n → first_refusal (flow_refusals short n table then entity_refusals n x) ≡ 0
unfolding entity_refusals
asked_pass n table a short s x h =
    pass_then (flow_refusals short n table) _ (flow_numbered short n table) (flow_pass n table a short s) (pass 10 _ _ (lt-leb _ _ h) none_left)

-- the same of a question on two entities: if the bytes are sound, and x and y below N, it is not refused
pub both_pass : (n : ℕ) (table : List ℕ) → SoundFlow n table → (x y : ℕ) → x < n → y < n → first_refusal (both_asked_refusals n table x y) ≡ 0
unfolding both_asked_refusals pair_asked_refusals
both_pass n table a x y hx hy =
    pass_then (flow_refusals false n table) _ (flow_numbered false n table) (flow_pass n table a false refl)
    (pass 10 _ _ (lt-leb _ _ hx) (pass 10 _ _ (lt-leb _ _ hy) none_left))
