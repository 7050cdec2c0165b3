-- The least power of two at or above a number: the first that is enough, of a table where each is twice the one before.
use Rattle.std.proofs.Common.{◌≡◌, ℕ, zero, suc, ◌+◌, ◌*◌, ◌^◌, ◌<◌, ◌≤◌, leb, List, [], ◌∷◌, Option, Some, None, MatchOption, sym, refl, ◌∙◌, subst, inl, inr, add-zero, add-suc, suc-add, zero-add, arith, pow_pos, pow_mono}
use native.Mathlib.Nat.{two-pow-succ}
use Rattle.std.proofs.lemmas.Bool.{cases_lt, le-leb, lt-leb}
use Rattle.std.specs.List.{find}
use Rattle.arena.specs.Powers.{LeastPower, doubled, least_power_of}

-- so many powers of two, from p on
abbrev pub doubling : ℕ → ℕ → List ℕ
doubling zero p = []
doubling (suc times) p = p ∷ doubling times (2 * p)

-- a power of two that is enough, where no smaller one is
here : (n p k : ℕ) → p ≡ 2 ^ k → ((j : ℕ) → j < k → 2 ^ j < n) → n ≤ p → LeastPower n p
here n p k e below enough =
    record {
      power = (k, e);
      above = enough;
      least = λ q (j, f) more. elim (cases_lt j k) [
        | inl less ↦ absurd (omega (arith, below j less))
        | inr up ↦ (let m : 2 ^ k ≤ 2 ^ j = pow_mono up in omega arith)
      ];
    }

further : (n p k : ℕ) → p ≡ 2 ^ k → ((j : ℕ) → j < k → 2 ^ j < n) → p < n → (j : ℕ) → j < suc k → 2 ^ j < n
further n p k e below less j h = let le : j ≤ k = omega arith in let m : 2 ^ j ≤ 2 ^ k = pow_mono le in omega arith

-- the first of them that is enough is the least power
first-enough : (times n p k : ℕ) → p ≡ 2 ^ k → ((j : ℕ) → j < k → 2 ^ j < n) → MatchOption (find (leb n) (doubling times p)) ((j : ℕ) → j < k + times → 2 ^ j < n) (LeastPower n)
first-enough zero n p k e below = λ j h. below j (omega arith)
first-enough (suc times) n p k e below = elim (cases_lt p n) [
  | inl less ↦
      let i = first-enough times n (2 * p) (suc k) (omega (arith, two-pow-succ k)) (further n p k e below less) in
      let m : suc k + times ≡ k + suc times = omega arith in
      rw (lt-leb n p less) (subst (λ (x : ℕ). MatchOption (find (leb n) (doubling times (2 * p))) ((j : ℕ) → j < x → 2 ^ j < n) (LeastPower n)) m i)
  | inr enough ↦ rw (le-leb n p enough) (here n p k e below enough)
]

pub first-power : (n : ℕ) → 16 ≤ n → MatchOption (find (leb n) (doubling 23 16)) (67108864 < n) (LeastPower n)
first-power n some = low (find (leb n) (doubling 23 16)) (first-enough 23 n 16 4 refl (λ j h. let le : j ≤ 3 = omega arith in let m : 2 ^ j ≤ 2 ^ 3 = pow_mono le in omega arith))
  where
    low : (o : Option ℕ) → MatchOption o ((j : ℕ) → j < 27 → 2 ^ j < n) (LeastPower n) → MatchOption o (67108864 < n) (LeastPower n)
    low None all = all 26 (omega arith)
    low (Some p) l = l

-- what doubling comes to is the least power
double-least : (times n p k : ℕ) → p ≡ 2 ^ k → ((j : ℕ) → j < k → 2 ^ j < n) → n ≤ 2 ^ (times + k) → LeastPower n (doubled times n p)
double-least zero n p k e below enough = here n p k e below (let z = zero-add k in omega (arith, subst (λ (m : ℕ). n ≤ 2 ^ m) z enough))
double-least (suc times) n p k e below enough = elim (cases_lt p n) [
  | inl less ↦
      let i = double-least times n (2 * p) (suc k) (omega (arith, two-pow-succ k)) (further n p k e below less) (subst (λ (m : ℕ). n ≤ 2 ^ m) (suc-add times k ∙ sym (add-suc times k)) enough) in
      rw (lt-leb n p less) i
  | inr enough' ↦ rw (le-leb n p enough') (here n p k e below enough')
]

below-power : (n : ℕ) → n ≤ 2 ^ n
below-power zero = omega (arith, pow_pos 0)
below-power (suc n) = omega (arith, below-power n, two-pow-succ n, pow_pos n)

pub least_power_of-least : (n : ℕ) → LeastPower n (least_power_of n)
unfolding least_power_of
least_power_of-least n = double-least n n 1 0 refl (λ j h. absurd (omega arith)) (subst (λ (m : ℕ). n ≤ 2 ^ m) (sym (add-zero n)) (below-power n))

-- and no other number is
pub least-is : (n p : ℕ) → LeastPower n p → p ≡ least_power_of n
least-is n p l =
    let m = least_power_of-least n in
    let le = l.least (least_power_of n) m.power m.above in
    let ge = m.least p l.power l.above in
    omega arith

-- it is at most the largest block where that is enough
pub least-small : (n p : ℕ) → LeastPower n p → n ≤ 67108864 → p ≤ 67108864
least-small n p l small = l.least 67108864 (26, refl) small
