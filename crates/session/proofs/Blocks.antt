-- What a block added in front, a pop and a store leave of the blocks and of their bytes.
use Rattle.std.proofs.Common.{◌≡◌, ℕ, suc, ◌+◌, ◌-◌, ◌^◌, ◌<◌, ◌≤◌, max, true, false, ◌||◌, ◌≢◌, [], ◌∷◌, length, get_or, sym, refl, ap, ◌∙◌, inl, inr, arith, length-set, get_or-set_other, get_or-set_same}
use Rattle.std.proofs.lemmas.Bool.{cases_lt, cases_Bool, both_ways, or_parts, or_cases, cond-true, cond-false}
use Rattle.allocator.specs.Memory.{Block, Memory, Lawful, Apart, AllFull, spans, inside, taken_in, within, taken, full, byte_at, popped, stored, written}
use Rattle.allocator.proofs.Spans.{spans-true, spans-from, spans-past, taken-newest, taken-older, untaken-both, within-newest, within-older}
use Rattle.session.specs.Ledger.{Span}
use Rattle.session.specs.Laws.{InOneBlock, Separate}

pub inside-from : (b : Block) (at : ℕ) → b.base ≤ at → at < b.base + length b.bytes → inside b at ≡ true
inside-from b at = spans-from b.base (length b.bytes) at

-- each address of a span in one of the blocks is in one of the blocks
pub within-from : (m : Memory) (span : Span) (at : ℕ) → InOneBlock m span → span.at ≤ at → at < span.at + span.size → within m at ≡ true
within-from [] span at there low high = absurd there
within-from (b ∷ older) span at (inl (first, last)) low high = within-newest b older at (inside-from b at (omega arith) (omega arith))
within-from (b ∷ older) span at (inr there) low high = within-older b older at (within-from older span at there low high)

-- a span in a block and one in other blocks share no byte
pub across : (b : Block) (m : Memory) (one other : Span) → Apart b m → b.base ≤ one.at → one.at + one.size ≤ b.base + length b.bytes →
    0 < one.size → InOneBlock m other → 0 < other.size → Separate one other
across b m one other apart low high some there some' = elim (cases_lt other.at (one.at + one.size)) [
  | inr after ↦ inl after
  | inl before ↦ elim (cases_lt one.at (other.at + other.size)) [
    | inr after ↦ inr after
    | inl before' ↦
        let at : ℕ = max one.at other.at in
        absurd (both_ways (within m at)
        (apart at (inside-from b at (omega arith) (omega arith)))
        (within-from m other at there (omega arith) (omega arith)))
  ]
]

-- a further block hides no byte
pub byte_at-further : (b : Block) (m : Memory) (at : ℕ) → Apart b m → within m at ≡ true → byte_at (b ∷ m) at ≡ byte_at m at
byte_at-further b m at apart there = elim (cases_Bool (inside b at)) [
  | inl yes' ↦ absurd (both_ways (within m at) (apart at yes') there)
  | inr no' ↦ cond-false _ _ _ no'
]

pub length-full : (m : Memory) → length (full m) ≡ length m
length-full [] = refl
length-full (b ∷ older) = refl

pub full-in : (m : Memory) (span : Span) → InOneBlock m span → InOneBlock (full m) span
full-in [] span there = there
full-in (b ∷ older) span there = there

-- every byte of full blocks is taken
pub taken-all : (m : Memory) (at : ℕ) → AllFull m → within m at ≡ true → taken m at ≡ true
taken-all [] at all there = there
taken-all (b ∷ older) at (e, all) there = elim (or_cases (inside b at) (within older at) there) [
  | inl here ↦ taken-newest b older at (ap (λ n. spans b.base n at) e ∙ here)
  | inr deep ↦ taken-older b older at (taken-all older at all deep)
]

-- no address from 2^48 on is taken
pub high-untaken : (m : Memory) (at : ℕ) → Lawful m → 2 ^ 48 ≤ at → taken m at ≡ false
high-untaken [] at lawful high = refl
high-untaken (b ∷ older) at (mark, end, apart, all, lawful) high =
    untaken-both b older at (spans-past b.base b.mark at (omega arith)) (high-untaken older at lawful high)

-- pops
pub popped-untaken : (m : Memory) (at : ℕ) → taken m at ≡ false → popped m at ≡ m
popped-untaken [] at e = refl
popped-untaken (b ∷ older) at e = ap (λ x. x ∷ older) (cond-false _ _ _ (or_parts (taken_in b at) (taken older at) e).0)

pub length-popped : (m : Memory) (at : ℕ) → length (popped m at) ≡ length m
length-popped [] at = refl
length-popped (b ∷ older) at = refl

pub byte_at-popped : (m : Memory) (at to : ℕ) → byte_at (popped m at) to ≡ byte_at m to
byte_at-popped [] at to = refl
byte_at-popped (b ∷ older) at to = elim (cases_Bool (taken_in b at)) [
  | inl e ↦ ap (λ x. byte_at (x ∷ older) to) (cond-true _ _ _ e)
  | inr e ↦ ap (λ x. byte_at (x ∷ older) to) (cond-false _ _ _ e)
]

-- stores
pub length-written : (b : Block) (at v : ℕ) → length (written b at v).bytes ≡ length b.bytes
length-written b at v = elim (cases_Bool (inside b at)) [
  | inl e ↦ ap length (cond-true _ _ _ e) ∙ length-set b.bytes (at - b.base) v
  | inr e ↦ ap length (cond-false _ _ _ e)
]

inside-written : (b : Block) (at v to : ℕ) → inside (written b at v) to ≡ inside b to
inside-written b at v to = ap (λ n. spans b.base n to) (length-written b at v)

pub stored-in : (m : Memory) (at v : ℕ) (span : Span) → InOneBlock m span → InOneBlock (stored m at v) span
stored-in [] at v span there = absurd there
stored-in (b ∷ older) at v span (inl (low, high)) = inl (low, omega (arith, length-written b at v))
stored-in (b ∷ older) at v span (inr deep) = inr (stored-in older at v span deep)

pub length-stored : (m : Memory) (at v : ℕ) → length (stored m at v) ≡ length m
length-stored [] at v = refl
length-stored (b ∷ older) at v = ap suc (length-stored older at v)

-- what was stored stands there
pub byte_at-stored : (m : Memory) (at v : ℕ) → within m at ≡ true → byte_at (stored m at v) at ≡ v
byte_at-stored [] at v e = absurd (both_ways false refl e)
byte_at-stored (b ∷ older) at v there = elim (cases_Bool (inside b at)) [
  | inl e ↦
      let p = spans-true b.base (length b.bytes) at e in
      let short : at - b.base < length b.bytes = omega (arith, p.0, p.1) in
      cond-true _ _ _ (inside-written b at v at ∙ e) ∙ ap (λ xs. get_or xs (at - b.base) 0) (cond-true _ _ _ e) ∙ get_or-set_same b.bytes (at - b.base) v 0 short
  | inr e ↦ cond-false _ _ _ (inside-written b at v at ∙ e) ∙ byte_at-stored older at v (ap (λ t. t || within older at) (sym e) ∙ there)
]

-- and every other byte is as it was
byte-written : (b : Block) (at v to : ℕ) → to ≢ at → inside b to ≡ true → get_or (written b at v).bytes (to - b.base) 0 ≡ get_or b.bytes (to - b.base) 0
byte-written b at v to ne there = elim (cases_Bool (inside b at)) [
  | inl e ↦
      let low = (spans-true b.base (length b.bytes) at e).0 in
      let low' = (spans-true b.base (length b.bytes) to there).0 in
      let ne' : to - b.base ≢ at - b.base = omega arith in
      ap (λ xs. get_or xs (to - b.base) 0) (cond-true _ _ _ e) ∙ get_or-set_other b.bytes (at - b.base) (to - b.base) v 0 ne'
  | inr e ↦ ap (λ xs. get_or xs (to - b.base) 0) (cond-false _ _ _ e)
]

pub byte_at-other : (m : Memory) (at v to : ℕ) → to ≢ at → byte_at (stored m at v) to ≡ byte_at m to
byte_at-other [] at v to ne = refl
byte_at-other (b ∷ older) at v to ne = elim (cases_Bool (inside b to)) [
  | inl e ↦ cond-true _ _ _ (inside-written b at v to ∙ e) ∙ byte-written b at v to ne e ∙ sym (cond-true _ _ _ e)
  | inr e ↦ cond-false _ _ _ (inside-written b at v to ∙ e) ∙ byte_at-other older at v to ne ∙ sym (cond-false _ _ _ e)
]
