-- What the slots say of the places that they stand for.
use Rattle.std.proofs.Common.{◌≡◌, ℕ, ◌+◌, ◌%◌, ◌^◌, ◌<◌, ◌≤◌, Bool, true, false, not, ◌&&◌, ◌||◌, ltb, ◌==◌, List, [], ◌∷◌, ◌++◌, length, map, reverse, filter, Some, sym, refl, ap, ◌∙◌, inl, inr, append-nil, mod-eq_of_lt, arith}
use Rattle.std.specs.List.{list_any}
use Rattle.std.proofs.lemmas.List.{map-append, reverse-append, length-reverse, length-map}
use Rattle.std.proofs.lemmas.List.Elements.{filter-append}
use Rattle.std.proofs.lemmas.List.Sorted.{IsPermutation-reverse, list_any-IsPermutation}
use Rattle.std.proofs.lemmas.Bool.{cases_Bool, and_parts, or_cases, true≢false}
use Rattle.std.proofs.lemmas.Bool.Decides.{nat_tests}
use Rattle.allocator.specs.Memory.{spans}
use Rattle.source.specs.Blocks.{Place}
use Rattle.region.specs.declared.slot.Slot.{Slot}
use Rattle.region.specs.Places.{place, chain, covers, leaving, apart, free, stands, keeps, cut, Lowest}
use Rattle.region.specs.Regions.{parts}

any-map : (p : Place → Bool) (slots : List Slot) → list_any p (map place slots) ≡ list_any (λ s. p (place s)) slots
any-map p [] = refl
any-map p (s ∷ ss) = ap (λ b. p (place s) || b) (any-map p ss)

pub any-chain : (p : Place → Bool) (slots : List Slot) → list_any p (chain slots) ≡ list_any (λ s. p (place s)) slots
any-chain p slots = sym (list_any-IsPermutation p (map place slots) (chain slots) (IsPermutation-reverse (map place slots))) ∙ any-map p slots

pub chain-push : (slots : List Slot) (s : Slot) → chain (slots ++ s ∷ []) ≡ place s ∷ chain slots
chain-push slots s = ap reverse (map-append place slots (s ∷ [])) ∙ reverse-append (map place slots) (place s ∷ [])

pub chain-length : (slots : List Slot) → length (chain slots) ≡ length slots
chain-length slots = length-reverse (map place slots) ∙ length-map slots place

chain-first : (s : Slot) (slots : List Slot) → chain (s ∷ slots) ≡ chain slots ++ place s ∷ []
chain-first s slots = reverse-append (place s ∷ []) (map place slots)

filter-chain : (p : Place → Bool) (slots : List Slot) → chain (filter (λ s. p (place s)) slots) ≡ filter p (chain slots)
filter-chain p [] = refl
filter-chain p (s ∷ ss) =
    let rest = filter-chain p ss in
    let last : filter p (chain (s ∷ ss)) ≡ filter p (chain ss) ++ filter p (place s ∷ []) = ap (filter p) (chain-first s ss) ∙ filter-append p (chain ss) (place s ∷ []) in
    elim (cases_Bool (p (place s))) [
      | inl e ↦ rw e (chain-first s (filter (λ s. p (place s)) ss) ∙ (rw (rest, last, e) refl))
      | inr e ↦ rw e (rest ∙ (rw (last, e) (sym (append-nil (filter p (chain ss))))))
    ]

pub leaves : (base : ℕ) (slots slots' : List Slot) → slots' ≡ filter (λ s. not (s.base == base)) slots → chain slots' ≡ leaving (chain slots) base
leaves base slots slots' e = ap chain e ∙ filter-chain (λ p. not (p.base == base)) slots

-- how many slots are left says whether the test left one out
module _ (t : Slot → Bool) where
  abbrev left : List Slot → ℕ
  left slots = length (filter (λ s. not (t s)) slots)

  pub left-few : (slots : List Slot) → left slots ≤ length slots
  left-few [] = omega arith
  left-few (s ∷ ss) = let few = left-few ss in elim (cases_Bool (t s)) [ inl e ↦ rw e (omega arith) | inr e ↦ rw e (omega arith) ]

  pub left-all : (slots : List Slot) → left slots ≡ length slots → list_any t slots ≡ false
  left-all [] same = refl
  left-all (s ∷ ss) same = let few = left-few ss in elim (cases_Bool (t s)) [
    | inl e ↦ let one = rw e at same in absurd (omega arith)
    | inr e ↦ let one = rw e at same in rw e (left-all ss (omega arith))
  ]

  pub left-fewer : (slots : List Slot) → left slots < length slots → list_any t slots ≡ true
  left-fewer [] fewer = absurd (omega arith)
  left-fewer (s ∷ ss) fewer = elim (cases_Bool (t s)) [
    | inl e ↦ rw e refl
    | inr e ↦ let one = rw e at fewer in rw e (left-fewer ss (omega arith))
  ]

-- does the place overlap the other
abbrev pub meets : Place → Place → Bool
meets p q = ltb p.base (q.base + q.size) && ltb q.base (p.base + p.size)

neither : (a b : Bool) → (not a && not b) ≡ not (a || b)
neither true b = refl
neither false b = refl

free-meets : (ps : List Place) (q : Place) → free ps q ≡ not (list_any (λ p. meets p q) ps)
free-meets [] q = refl
free-meets (p ∷ ps) q =
    let one : apart p q ≡ not (meets p q) = grind (arith, nat_tests) in
    rw (one, free-meets ps q) (neither (meets p q) (list_any (λ p. meets p q) ps))

pub free-chain : (slots : List Slot) (q : Place) → free (chain slots) q ≡ not (list_any (λ s. meets (place s) q) slots)
free-chain slots q = free-meets (chain slots) q ∙ ap not (any-chain (λ p. meets p q) slots)

-- the test by ends that wrap is the same, since every block ends below the last number
ends : (len : ℕ) (ps : List Place) (q : Place) → len ≤ 67108864 → keeps len ps ≡ true
    → list_any (λ p. ltb p.base (q.base + q.size) && ltb q.base ((p.base + p.size) % 2 ^ 64)) ps ≡ list_any (λ p. meets p q) ps
ends len [] q short k = refl
ends len (p ∷ ps) q short k =
    let a = parts len p ps k in
    let high = a.stands.high in
    let uncut : (p.base + p.size) % 2 ^ 64 ≡ p.base + p.size = mod-eq_of_lt (omega arith) in
    rw (uncut, ends len ps q short a.older) refl

pub ends-chain : (len : ℕ) (slots : List Slot) (q : Place) → len ≤ 67108864 → keeps len (chain slots) ≡ true
    → list_any (λ s. ltb s.base (q.base + q.size) && ltb q.base ((s.base + s.size) % 2 ^ 64)) slots ≡ list_any (λ s. meets (place s) q) slots
ends-chain len slots q short k =
    sym (any-chain (λ p. ltb p.base (q.base + q.size) && ltb q.base ((p.base + p.size) % 2 ^ 64)) slots) ∙ ends len (chain slots) q short k ∙ any-chain (λ p. meets p q) slots

-- an address of a block is one of the buffer's
pub covered : (len : ℕ) (ps : List Place) (at : ℕ) → keeps len ps ≡ true → covers ps at ≡ true → (4096 ≤ at) × (at < 4096 + len)
covered len [] at k c = absurd (true≢false (sym c))
covered len (p ∷ ps) at k c =
    let a = parts len p ps k in
    let low = a.stands.low in
    let high = a.stands.high in
    elim (or_cases (spans p.base p.size at) (covers ps at) c) [
      | inl e ↦ (grind (arith, nat_tests), grind (arith, nat_tests))
      | inr e ↦ covered len ps at a.older e
    ]

-- a block at the lowest place stands beside the others
pub served : (ps : List Place) (len size at : ℕ) → 0 < size → keeps len ps ≡ true → Lowest len ps size (Some at) → keeps len (record { base = at; size = size } ∷ ps) ≡ true
served ps len size at some k (q, e, s, _) =
    let low = s.0 in
    let inside : stands len (cut q size) ≡ true = grind (arith, nat_tests) in
    rw (e, inside, s.1) k

free-leaving : (ps : List Place) (q : Place) (at : ℕ) → free ps q ≡ true → free (leaving ps at) q ≡ true
free-leaving [] q at f = refl
free-leaving (p ∷ ps) q at f =
    let a = and_parts (apart p q) (free ps q) f in
    elim (cases_Bool (p.base == at)) [
      | inl e ↦ rw e (free-leaving ps q at a.1)
      | inr e ↦ rw (e, a.0) (free-leaving ps q at a.1)
    ]

-- the others stand beside one another as they did
pub keeps-leaving : (len : ℕ) (ps : List Place) (at : ℕ) → keeps len ps ≡ true → keeps len (leaving ps at) ≡ true
keeps-leaving len [] at k = refl
keeps-leaving len (p ∷ ps) at k =
    let a = and_parts (stands len p) (free ps p && keeps len ps) k in
    let b = and_parts (free ps p) (keeps len ps) a.1 in
    elim (cases_Bool (p.base == at)) [
      | inl e ↦ rw e (keeps-leaving len ps at b.1)
      | inr e ↦ rw (e, a.0, free-leaving ps p at b.0) (keeps-leaving len ps at b.1)
    ]
