-- The alignments are the divisors of 4,096, and of two of them the smaller divides the larger.
use Rattle.std.proofs.Common.{◌≡◌, ℕ, zero, suc, ◌+◌, ◌-◌, ◌*◌, ◌/◌, ◌%◌, ◌^◌, ◌<◌, ◌≤◌, sym, ap, ◌∙◌, subst, inl, inr, mul_assoc, mul_comm, mul-one, mul-add, arith, pow_pos, pow-add}
use Prim.Native.Nat.{◌∣◌}
use native.Mathlib.Nat.{two-pow-succ, pow-zero, mod-eq-zero_of_dvd, dvd_of_mod-eq-zero, dvd-mul_right, eq-one_of_dvd-one, le_of_dvd, mul-div_cancel'}
use lib.Pow.{pow-lt}
use Rattle.std.proofs.lemmas.Bool.{cases_lt}
use Rattle.allocator.specs.Layouts.{PowerOfTwo, Aligning}

doubled : {n : ℕ} → PowerOfTwo n → PowerOfTwo (2 * n)
doubled (k, e) = (suc k, omega (arith, two-pow-succ k))

-- an even number is twice its half; of a product that is even, one factor is
halves : (n : ℕ) → n % 2 < 1 → n ≡ 2 * (n / 2)
halves n even = omega arith

pub divisor-power : (k a b : ℕ) → a * b ≡ 2 ^ k → PowerOfTwo a
divisor-power zero a b e = (0, eq-one_of_dvd-one (subst (λ n. a ∣ n) (e ∙ pow-zero 2) (dvd-mul_right a b)))
divisor-power (suc k) a b e = elim (cases_lt (a % 2) 1) [
  | inl even ↦
      let p : (2 * (a / 2)) * b ≡ 2 ^ suc k = ap (λ n. n * b) (sym (halves a even)) ∙ e in
      let half : (a / 2) * b ≡ 2 ^ k = omega (arith, p, mul_assoc 2 (a / 2) b, two-pow-succ k) in
      subst PowerOfTwo (sym (halves a even)) (doubled (divisor-power k (a / 2) b half))
  | inr odd ↦ elim (cases_lt (b % 2) 1) [
    | inl even ↦
        let p : a * (b / 2 * 2) ≡ 2 ^ suc k = ap (λ n. a * n) (sym (halves b even ∙ mul_comm 2 (b / 2))) ∙ e in
        divisor-power k a (b / 2) (omega (arith, p, mul_assoc a (b / 2) 2, two-pow-succ k))
    | inr odd' ↦
        let is : b ≡ b / 2 * 2 + 1 = omega arith in
        let p : a * (b / 2 * 2 + 1) ≡ 2 ^ suc k = ap (λ n. a * n) (sym is) ∙ e in
        absurd (omega (arith, p, mul-add a (b / 2 * 2) 1, mul-one a, mul_assoc a (b / 2) 2, two-pow-succ k))
  ]
]

powers-divide : (i j : ℕ) → 2 ^ i ≤ 2 ^ j → 2 ^ i ∣ 2 ^ j
powers-divide i j le = elim (cases_lt j i) [
  | inl less ↦ absurd (omega (arith, pow-lt less))
  | inr more ↦
      let is : j ≡ i + (j - i) = omega arith in
      subst (λ n. 2 ^ i ∣ n) (sym (ap (λ n. 2 ^ n) is ∙ pow-add 2 i (j - i))) (dvd-mul_right (2 ^ i) (2 ^ (j - i)))
]

-- the test that a layout is put to says that its alignment is a power of two up to 4,096
pub aligning-from-divides : (a : ℕ) → 4096 % a ≡ 0 → Aligning a
aligning-from-divides a divides =
    let d = dvd_of_mod-eq-zero a divides in
    (divisor-power 12 a (4096 / a) (mul-div_cancel' a d), le_of_dvd (omega arith) d)

pub divides-from-aligning : (a : ℕ) → Aligning a → 4096 % a ≡ 0
divides-from-aligning a ((k, e), high) =
    let le : 2 ^ k ≤ 2 ^ 12 = omega arith in
    mod-eq-zero_of_dvd a (subst (λ n. n ∣ 4096) (sym e) (powers-divide k 12 le))

pub aligning-some : (a : ℕ) → Aligning a → 0 < a
aligning-some a ((k, e), high) = omega (arith, pow_pos k)

pub smaller-divides : (a b : ℕ) → Aligning a → Aligning b → a ≤ b → a ∣ b
smaller-divides a b ((i, e), _) ((j, f), _) le =
    let h : 2 ^ i ≤ 2 ^ j = omega arith in
    rw (e, f) (powers-divide i j h)
