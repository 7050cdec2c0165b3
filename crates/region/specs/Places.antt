-- Where the blocks of a region lie in its buffer, and where there is room for one more.
use Rattle.std.specs.Prelude.{◌≡◌, ℕ, ◌+◌, ◌*◌, ◌%◌, ◌<◌, ◌≤◌, Bool, true, not, ◌&&◌, ◌||◌, List, [], ◌∷◌, map, reverse, filter, Some, None, Option, ◌==◌, nat_le, nat_lt}
use Rattle.std.specs.List.{list_any, list_all}
use Rattle.allocator.specs.Memory.{spans}
use Rattle.source.specs.Blocks.{Place}
use Rattle.region.specs.declared.slot.Slot.{Slot}

abbrev pub place : Slot → Place
place s = record { base = s.base; size = s.size }

-- the places of the slots, the newest first
abbrev pub chain : List Slot → List Place
chain slots = reverse (map place slots)

-- is the address in one of the places
abbrev pub covers : List Place → ℕ → Bool
covers ps at = list_any (λ p. spans p.base p.size at) ps

-- does one of them start at the address
abbrev pub begins : List Place → ℕ → Bool
begins ps at = list_any (λ p. p.base == at) ps

-- the places but for the one that starts at the address
abbrev pub leaving : List Place → ℕ → List Place
leaving ps at = filter (λ p. not (p.base == at)) ps

-- one of the two ends before the other starts
abbrev pub apart : Place → Place → Bool
apart p q = nat_le (p.base + p.size) q.base || nat_le (q.base + q.size) p.base

-- the place overlaps none of those
abbrev pub free : List Place → Place → Bool
free ps q = list_all (λ p. apart p q) ps

-- a block lies inside a buffer of that length, at a multiple of 8
abbrev pub stands : ℕ → Place → Bool
stands len p = nat_lt 0 p.size && (nat_le 4096 p.base && (nat_le (p.base + p.size) (4096 + len) && p.base % 8 == 0))

-- so do all of them, beside one another
abbrev pub keeps : ℕ → List Place → Bool
keeps len [] = true
keeps len (p ∷ ps) = stands len p && (free ps p && keeps len ps)

-- the place of that size at the k-th multiple of 16
abbrev pub cut : ℕ → ℕ → Place
cut k size = record { base = 4096 + 16 * k; size = size }

-- it lies inside a buffer of that length, and overlaps none of the places
abbrev pub Serves : ℕ → List Place → ℕ → ℕ → Type 0
Serves len ps size k = (16 * k + size ≤ len) × (free ps (cut k size) ≡ true)

-- the answer is the lowest place that serves, or that none does
abbrev pub Lowest : ℕ → List Place → ℕ → Option ℕ → Type 0
Lowest len ps size (Some at) = (k : ℕ) × (at ≡ 4096 + 16 * k) × Serves len ps size k × ((j : ℕ) → j < k → Serves len ps size j → ⊥)
Lowest len ps size None = (j : ℕ) → Serves len ps size j → ⊥
