-- Which addresses a run of bytes and a block have.
use Rattle.std.proofs.Common.{◌≡◌, ℕ, ◌+◌, ◌<◌, ◌≤◌, true, false, ◌⊎◌, [], ◌∷◌, length, refl, inl, inr, arith}
use Rattle.std.proofs.lemmas.Bool.{both_ways, cases_Bool, leb-true, ltb-true, le-leb, lt-leb, lt-ltb, le-ltb, and_parts, and_from, and_left, and_right, or_cases, or_from, or_left, or_right}
use Rattle.allocator.specs.Memory.{Block, Memory, spans, inside, taken_in, within, taken, byte_at, Lawful, marked, full}

module _ (first many at : ℕ) where
  pub spans-true : spans first many at ≡ true → (first ≤ at) × (at < first + many)
  spans-true yes' = let p = and_parts _ _ yes' in (leb-true _ _ p.0, ltb-true _ _ p.1)

  pub spans-from : first ≤ at → at < first + many → spans first many at ≡ true
  spans-from low high = and_from _ _ (le-leb _ _ low) (lt-ltb _ _ high)

  pub spans-before : at < first → spans first many at ≡ false
  spans-before low = and_left _ _ (lt-leb _ _ low)

  pub spans-past : first + many ≤ at → spans first many at ≡ false
  spans-past high = and_right _ _ (le-ltb _ _ high)

  pub spans-wider : (more : ℕ) → many ≤ more → spans first many at ≡ true → spans first more at ≡ true
  spans-wider more le yes' = let p = spans-true yes' in and_from _ _ (le-leb _ _ p.0) (lt-ltb _ _ (omega (arith, p.1)))

-- the bytes of a memory are those of its newest block and of the older ones
module _ (b : Block) (older : Memory) (at : ℕ) where
  pub taken-cases : taken (b ∷ older) at ≡ true → (taken_in b at ≡ true) ⊎ (taken older at ≡ true)
  taken-cases = or_cases (taken_in b at) (taken older at)

  pub taken-newest : taken_in b at ≡ true → taken (b ∷ older) at ≡ true
  taken-newest = or_left (taken_in b at) (taken older at)

  pub taken-older : taken older at ≡ true → taken (b ∷ older) at ≡ true
  taken-older = or_right (taken_in b at) (taken older at)

  pub untaken-both : taken_in b at ≡ false → taken older at ≡ false → taken (b ∷ older) at ≡ false
  untaken-both = or_from (taken_in b at) (taken older at)

  pub within-newest : inside b at ≡ true → within (b ∷ older) at ≡ true
  within-newest = or_left (inside b at) (within older at)

  pub within-older : within older at ≡ true → within (b ∷ older) at ≡ true
  within-older = or_right (inside b at) (within older at)

pub taken-inside : (b : Block) (at : ℕ) → b.mark ≤ length b.bytes → taken_in b at ≡ true → inside b at ≡ true
taken-inside b at mark = spans-wider b.base b.mark at (length b.bytes) mark

-- a taken byte is one of a block's
pub taken-within : (m : Memory) (at : ℕ) → Lawful m → taken m at ≡ true → within m at ≡ true
taken-within [] at lawful yes' = yes'
taken-within (b ∷ older) at (mark, high, apart, filled, rest) yes' = elim (taken-cases b older at yes') [
  | inl here ↦ within-newest b older at (taken-inside b at mark here)
  | inr there ↦ within-older b older at (taken-within older at rest there)
]

pub untaken-outside : (m : Memory) (at : ℕ) → Lawful m → within m at ≡ false → taken m at ≡ false
untaken-outside m at lawful out = elim (cases_Bool (taken m at)) [
  | inl yes' ↦ absurd (both_ways (within m at) out (taken-within m at lawful yes'))
  | inr no' ↦ no'
]

-- filling the newest block moves no address and no byte
pub within-full : (m : Memory) (at : ℕ) → within (full m) at ≡ within m at
within-full [] at = refl
within-full (b ∷ older) at = refl

pub byte_at-full : (m : Memory) (at : ℕ) → byte_at (full m) at ≡ byte_at m at
byte_at-full [] at = refl
byte_at-full (b ∷ older) at = refl

pub taken-full : (m : Memory) (at : ℕ) → Lawful m → taken m at ≡ true → taken (full m) at ≡ true
taken-full [] at lawful yes' = yes'
taken-full (b ∷ older) at lawful yes' = elim (taken-cases b older at yes') [
  | inl here ↦ taken-newest (marked b (length b.bytes)) older at (taken-inside b at lawful.0 here)
  | inr there ↦ taken-older (marked b (length b.bytes)) older at there
]
