-- Laws of `first_refusal` and `Outcome`: the two ends of every call, what a passed list tells, and that an outcome is determined
-- where what is done is.
use mathlib.Core.Path.{◌≡◌, refl, sym, ap, ◌∙◌}
use mathlib.Core.Logic.{◌≢◌}
use mathlib.Core.Bool.{Bool, true, false, ◌&&◌, cond}
use mathlib.Core.List.{List, [], ◌∷◌}
use Prim.Native.Nat.{ℕ, zero, suc, ◌<◌}
use native.Mathlib.Nat.{suc-ne-zero}
use native.Mathlib.Decide.{ℕ_discrete}
use native.Mathlib.Omega.{arith}
use borrow.Author.Tests.{eq-eqb, ne_eqb}
use lib.Dec.{T, ltb, eqb, lit<}
use Rattle.answers.specs.Call.{Refusal, ◌if◌, ◌then◌, first_refusal, Outcome}

-- no refusal's test holds: the first one's does not, and neither do the others'
pub passed : (n : ℕ) (t : Bool) (rest : List Refusal) → T (ltb 0 n) → first_refusal ((n if t) ∷ rest) ≡ 0 →
    (t ≡ false) × (first_refusal rest ≡ 0)
unfolding first_refusal
passed n true rest p e = absurd (let h : 0 < n = lit< p in omega arith)
passed n false rest p e = (refl, e)

-- no refusal of the list has the number 0: `tt` shows it of a list whose numbers are written out
abbrev pub numbered : List Refusal → Bool
numbered [] = true
numbered (r ∷ rest) = ltb 0 r.number && numbered rest

pub parts : (a b : Bool) → T (a && b) → T a × T b
parts true b t = (tt, t)
parts false b t = absurd t

pub join : (a b : Bool) → T a → T b → T (a && b)
join true b p q = q
join false b p q = absurd p

-- Two lists, one after the other: what the first refuses is refused so, and what it passes is left to the second.
pub numbered_then : (l m : List Refusal) → T (numbered l) → T (numbered m) → T (numbered (l then m))
unfolding ◌then◌
numbered_then [] m p q = q
numbered_then (r ∷ l) m p q =
    let (here, rest) = parts (ltb 0 r.number) (numbered l) p in
    join (ltb 0 r.number) _ here (numbered_then l m rest q)

pub by_first : (l m : List Refusal) → first_refusal l ≢ 0 → first_refusal (l then m) ≡ first_refusal l
unfolding first_refusal ◌then◌
by_first [] m some = absurd (some refl)
by_first (r ∷ l) m some = go r.test some (by_first l m)
  where
    go : (b : Bool) → cond b r.number (first_refusal l) ≢ 0 → (first_refusal l ≢ 0 → first_refusal (l then m) ≡ first_refusal l) →
        cond b r.number (first_refusal (l then m)) ≡ cond b r.number (first_refusal l)
    go true some rest = refl
    go false some rest = rest some

pub by_second : (l m : List Refusal) → T (numbered l) → first_refusal l ≡ 0 → first_refusal (l then m) ≡ first_refusal m
unfolding first_refusal ◌then◌
by_second [] m t e = refl
by_second (r ∷ l) m t e = go r.number r.test t e (by_second l m)
  where
    go : (n : ℕ) (b : Bool) → T (ltb 0 n && numbered l) → cond b n (first_refusal l) ≡ 0 →
        (T (numbered l) → first_refusal l ≡ 0 → first_refusal (l then m) ≡ first_refusal m) → cond b n (first_refusal (l then m)) ≡ first_refusal m
    go n true t e rest = absurd (let h : 0 < n = lit< (parts (ltb 0 n) (numbered l) t).0 in omega arith)
    go n false t e rest = rest (parts (ltb 0 n) (numbered l) t).1 e

-- the same of the numbers k and n that functions answer for the two lists
pub first_refuses : (l m : List Refusal) (k : ℕ) → k ≡ first_refusal l → k ≢ 0 → k ≡ first_refusal (l then m)
first_refuses l m k e some = e ∙ sym (by_first l m (λ none. some (e ∙ none)))

pub second_decides : (l m : List Refusal) (k n : ℕ) → T (numbered l) → k ≡ first_refusal l → k ≡ 0 → n ≡ first_refusal m → n ≡ first_refusal (l then m)
second_decides l m k n t e none f = f ∙ sym (by_second l m t (sym e ∙ none))

-- both at once
pub by_both : (l m : List Refusal) → T (numbered l) → first_refusal (l then m) ≡ cond (eqb (first_refusal l) 0) (first_refusal m) (first_refusal l)
by_both l m t = go (ℕ_discrete (first_refusal l) 0)
  where
    go : Dec (first_refusal l ≡ 0) → first_refusal (l then m) ≡ cond (eqb (first_refusal l) 0) (first_refusal m) (first_refusal l)
    go (yes none) = rw (eq-eqb (first_refusal l) 0 none) (by_second l m t none)
    go (no some) = rw (ne_eqb (first_refusal l) 0 some) (by_first l m some)

-- two lists pass exactly if both do
pub passed_then : (l m : List Refusal) → T (numbered l) → first_refusal (l then m) ≡ 0 → (first_refusal l ≡ 0) × (first_refusal m ≡ 0)
passed_then l m t e = go (first_refusal l) refl
  where
    go : (n : ℕ) → first_refusal l ≡ n → (first_refusal l ≡ 0) × (first_refusal m ≡ 0)
    go zero q = (q, sym (by_second l m t q) ∙ e)
    go (suc n) q = absurd (suc-ne-zero n (sym q ∙ sym (by_first l m (λ z. suc-ne-zero n (sym q ∙ z))) ∙ e))

pub pass_then : (l m : List Refusal) → T (numbered l) → first_refusal l ≡ 0 → first_refusal m ≡ 0 → first_refusal (l then m) ≡ 0
pass_then l m t e f = by_second l m t e ∙ f

-- a list with none left, and a refusal whose test fails in front of a list that passes
pub none_left : first_refusal [] ≡ 0
unfolding first_refusal
none_left = refl

pub pass : (n : ℕ) (t : Bool) (rest : List Refusal) → t ≡ false → first_refusal rest ≡ 0 → first_refusal ((n if t) ∷ rest) ≡ 0
unfolding first_refusal
pass n t rest e f = rw e f

module _ {R : Type 0} {refusals : List Refusal} {refused : ℕ → R} {Done : R → Type 0} where
  pub refuse : {result : R} (n : ℕ) → n ≡ first_refusal refusals → n ≢ 0 → result ≡ refused n → Outcome refusals refused Done result
  refuse n e some r = record { refusal = λ _. r ∙ ap refused e; done = λ none. absurd (some (e ∙ none)) }

  pub accept : {result : R} → first_refusal refusals ≡ 0 → Done result → Outcome refusals refused Done result
  accept none d = record { refusal = λ some. absurd (some none); done = λ _. d }

  -- A call that answers 0 has refused nothing.
  pub answered : {result : R} (answer : R → ℕ) → ((n : ℕ) → answer (refused n) ≡ n) → Outcome refusals refused Done result → answer result ≡ 0 →
      first_refusal refusals ≡ 0
  answered answer tells o e = go (first_refusal refusals) refl
    where
      go : (n : ℕ) → first_refusal refusals ≡ n → first_refusal refusals ≡ 0
      go zero q = q
      go (suc n) q = sym (tells (first_refusal refusals)) ∙ ap answer (sym (o.refusal (λ none. suc-ne-zero n (sym q ∙ none)))) ∙ e

  -- Two outcomes of one call are equal, where two results that are done are.
  pub determined : {r₁ r₂ : R} → (first_refusal refusals ≡ 0 → Done r₁ → Done r₂ → r₁ ≡ r₂) →
      Outcome refusals refused Done r₁ → Outcome refusals refused Done r₂ → r₁ ≡ r₂
  determined {r₁} {r₂} same o₁ o₂ = go (first_refusal refusals) refl
    where
      go : (n : ℕ) → first_refusal refusals ≡ n → r₁ ≡ r₂
      go zero e = same e (o₁.done e) (o₂.done e)
      go (suc n) e =
          let some : first_refusal refusals ≢ 0 = λ none. suc-ne-zero n (sym e ∙ none) in
          o₁.refusal some ∙ sym (o₂.refusal some)

-- The ends of a call whose list `m` goes on after a shared list `l`, which the function before it has answered for.
module _ {R : Type 0} (l m : List Refusal) {refused : ℕ → R} {Done : R → Type 0} {result : R} where
  pub refuse_shared : (n : ℕ) → n ≡ first_refusal l → n ≢ 0 → result ≡ refused n → Outcome (l then m) refused Done result
  refuse_shared n e some r = refuse n (e ∙ sym (by_first l m (λ none. some (e ∙ none)))) some r

  pub refuse_own : (n : ℕ) → T (numbered l) → first_refusal l ≡ 0 → n ≡ first_refusal m → n ≢ 0 → result ≡ refused n → Outcome (l then m) refused Done result
  refuse_own n t none e some r = refuse n (e ∙ sym (by_second l m t none)) some r

  pub accept_own : T (numbered l) → first_refusal l ≡ 0 → first_refusal m ≡ 0 → Done result → Outcome (l then m) refused Done result
  accept_own t none e d = accept (by_second l m t none ∙ e) d
