-- A flow table in memory: the refusals that every call on one shares. "Questions on a flow table are defined by its bytes alone": by the
-- relation `Bytes n table`, in which x flows to y where the byte "at x x N + y" is 1.
use Rattle.std.specs.Prelude.{ℕ, ◌*◌, ◌≤◌, ◌<◌, ◌≡◌, Bool, List, [], ◌∷◌, leb, eqb, length, get_or}
use Rattle.answers.specs.Sizes.{most_entities, least_flow}
use Rattle.answers.specs.Call.{Refusal, ◌if◌, ◌then◌}
use Rattle.answers.specs.Rows.{at, any_below, shorter, exceeds, some_above}

-- "a 0 on its diagonal"
abbrev pub zero_on_diagonal : ℕ → List ℕ → Bool
zero_on_diagonal n table = any_below n (λ x. eqb (at table n x x) 0)

-- "12 | a flow table byte above 1, or a 0 on its diagonal"
unfoldable pub byte_refusals : ℕ → List ℕ → List Refusal
byte_refusals n table = (12 if some_above table (n * n) 1) ∷ (12 if zero_on_diagonal n table) ∷ []

-- 1 and 5, by lengths and counts. `short` says that another buffer of the call is shorter than its least length.
unfoldable pub flow_size_refusals : Bool → ℕ → List ℕ → List Refusal
flow_size_refusals short n table = (1 if short) ∷ (1 if shorter table least_flow) ∷ (5 if exceeds n most_entities) ∷ []

-- "Calls on a flow table: 1, 5, 12, 10"
unfoldable pub flow_refusals : Bool → ℕ → List ℕ → List Refusal
flow_refusals short n table = flow_size_refusals short n table then byte_refusals n table

-- "10 | an entity asked about is not below N"
unfoldable pub entity_refusals : ℕ → ℕ → List Refusal
entity_refusals n x = (10 if leb n x) ∷ []

-- the same of two entities
unfoldable pub pair_asked_refusals : ℕ → ℕ → ℕ → List Refusal
pair_asked_refusals n x y = (10 if leb n x) ∷ (10 if leb n y) ∷ []

-- ---- what flow tables have that passed
-- 1 and 5
pub record SizedFlow (n : ℕ) (table : List ℕ) : Type 0 where
  pub few : n ≤ most_entities
  pub room : least_flow ≤ length table

-- and 12: bytes of 0 and 1, and each entity flows to itself
pub record SoundFlow (n : ℕ) (table : List ℕ) : Type 0 where
  pub sized : SizedFlow n table
  pub bits : (k : ℕ) → k < n * n → get_or table k 0 ≤ 1
  pub diagonal : (x : ℕ) → x < n → at table n x x ≡ 0 → ⊥
