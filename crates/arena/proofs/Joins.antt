-- The blocks of a ring: with one more, and their limits.
use Rattle.std.proofs.Common.{◌≡◌, ℕ, suc, ◌+◌, ◌-◌, ◌||◌, ◌*◌, ◌^◌, ◌<◌, ◌≤◌, true, List, [], ◌∷◌, ◌++◌, length, map, reverse, get_or, refl, sym, append_assoc, ap, ◌∙◌, inl, inr, arith, pow_mono}
use native.Mathlib.Nat.{two-pow-succ}
use Rattle.std.proofs.lemmas.Bool.{cases_lt, cases_eq, lt-ltb, le-leb, and_from}
use Rattle.std.proofs.lemmas.List.{reverse-append, length-map, length-reverse, places}
use Rattle.std.proofs.lemmas.Grind.{common_steps}
use Rattle.std.specs.List.{sum_by, list_any}
use Rattle.std.proofs.lemmas.List.Sums.{sum_by-cons, sum_by-le}
use Rattle.std.proofs.lemmas.List.Sorted.{IsPermutation-reverse, sum_by-IsPermutation, list_any-IsPermutation}
use Rattle.allocator.specs.Memory.{spans, taken}
use Rattle.source.specs.Blocks.{Outstanding, Place}
use Rattle.arena.specs.declared.record.BlockRecord.{BlockRecord}
use Rattle.arena.specs.Rings.{place, chain, after, Linked, newest_size, rising, total}
use Rattle.arena.specs.Meaning.{olders}
use Rattle.arena.specs.Keeps.{rise}

pub risen : (r : BlockRecord) (ps : List Place) → 2 * newest_size ps ≤ r.size → rising ps ≡ true → rising (place r ∷ ps) ≡ true
risen r ps doubles older =
    and_from _ _ (le-leb 16 r.size r.some) (and_from _ _ (le-leb r.size 67108864 r.small) (and_from _ _ (lt-ltb r.address (2 ^ 48) r.low) (and_from _ _ (le-leb (2 * newest_size ps) r.size doubles) older)))

-- the last record's block is the newest
pub chain-last : (rs : List BlockRecord) (r : BlockRecord) → chain (rs ++ r ∷ []) ≡ place r ∷ chain rs
chain-last rs r = simp reverse-append

pub newest-first : (rs older : List BlockRecord) (r : BlockRecord) → rs ≡ older ++ r ∷ [] → chain rs ≡ place r ∷ chain older
newest-first rs older r e = ap chain e ∙ chain-last older r

chain-length : (rs : List BlockRecord) → length (chain rs) ≡ length rs
chain-length rs = simp (length-map, length-reverse)

-- the newest of n blocks has 2^(n+3) bytes at least
climb : (p : Place) (ps : List Place) → rising (p ∷ ps) ≡ true → 2 ^ (length ps + 4) ≤ p.size
climb p [] r = (rise p [] r).some
climb p (q ∷ qs) r =
    let d = rise p (q ∷ qs) r in
    let i = climb q qs d.older in
    let w = d.doubles in
    let e : suc (length qs) + 4 ≡ suc (length qs + 4) = omega arith in
    rw e (omega (arith, two-pow-succ (length qs + 4)))

-- so there is a place left among 23 for one that doubles the newest
few : (ps : List Place) (size : ℕ) → rising ps ≡ true → 2 * newest_size ps ≤ size → size ≤ 67108864 → length ps < 23
few [] size r doubles small = omega arith
few (p ∷ ps) size r doubles small = elim (cases_lt (length ps) 22) [
  | inl h ↦ omega arith
  | inr h ↦ (let k : 26 ≤ length ps + 4 = omega arith in let a : 2 ^ 26 ≤ 2 ^ (length ps + 4) = pow_mono k in let b = climb p ps r in absurd (omega arith))
]

pub roomy : (rs : List BlockRecord) (size : ℕ) → rising (chain rs) ≡ true → 2 * newest_size (chain rs) ≤ size → size ≤ 67108864 → length rs < 23
roomy rs size r doubles small = let e = chain-length rs in let f = few (chain rs) size r doubles small in omega arith

-- the last record is linked to the place n, and all else is as it was
pub data Relinked (n : ℕ) (old new : List BlockRecord) : Type 0 where
  none : length old ≡ 0 → new ≡ old → Relinked n old new
  some : (front : List BlockRecord) (last : BlockRecord) → old ≡ front ++ last ∷ [] → new ≡ front ++ record last { next = n } ∷ [] → Relinked n old new

pub relinked-chain : (n : ℕ) (old new : List BlockRecord) → Relinked n old new → chain new ≡ chain old
relinked-chain n old new (none e f) = ap chain f
relinked-chain n old new (some front last e f) = simp (e, f, reverse-append)

-- and the record that follows is linked to the first
pub linked-on : (n : ℕ) (old new : List BlockRecord) (r : BlockRecord) → Relinked n old new → n ≡ length old → r.next ≡ 0 → Linked old → Linked (new ++ r ∷ [])
linked-on n old new r (none e f) many first l = rw f (λ i d h. grind (arith, places, common_steps))
linked-on n old new r (some front last e f) many first l =
    rw (f, append_assoc)
    (λ i d h. let l' : (i : ℕ) (d : BlockRecord) → i < length (front ++ last ∷ []) → (get_or (front ++ last ∷ []) i d).next ≡ after i (length (front ++ last ∷ [])) = rw e at l in grind (arith, places, common_steps, l' i d, cases_eq i (length front)))

-- the sum of the sizes, in whatever order
sizes : (rs : List BlockRecord) → total (map place rs) ≡ sum_by (λ (r : BlockRecord). r.size) rs
sizes [] = refl
sizes (r ∷ rs) = ap (λ (n : ℕ). r.size + n) (sizes rs) ∙ sym (sum_by-cons _ r rs)

pub total-sum : (rs : List BlockRecord) → total (chain rs) ≡ sum_by (λ (r : BlockRecord). r.size) rs
total-sum rs = sizes (reverse rs) ∙ sum_by-IsPermutation _ rs (reverse rs) (IsPermutation-reverse rs)

pub sum-small : (rs : List BlockRecord) → length rs ≤ 23 → sum_by (λ (r : BlockRecord). r.size) rs ≤ 23 * 67108864
sum-small rs many = let s = sum_by-le (λ (r : BlockRecord). r.size) 67108864 rs (λ k d h. (get_or rs k d).small) in omega arith

-- is the address a usable byte of one of the blocks, in whatever order
any-taken : (bs : List Outstanding) (at : ℕ) (rs : List BlockRecord) → taken (olders bs (map place rs)) at ≡ list_any (λ (r : BlockRecord). spans (r.address + 16) (r.size - 16) at) rs
any-taken bs at [] = refl
any-taken bs at (r ∷ rs) = ap (λ b. spans (r.address + 16) (r.size - 16) at || b) (any-taken bs at rs)

pub taken-any : (bs : List Outstanding) (at : ℕ) (rs : List BlockRecord) → taken (olders bs (chain rs)) at ≡ list_any (λ (r : BlockRecord). spans (r.address + 16) (r.size - 16) at) rs
taken-any bs at rs = any-taken bs at (reverse rs) ∙ sym (list_any-IsPermutation _ rs (reverse rs) (IsPermutation-reverse rs))
