-- What an allocator stands for: its blocks, the newest first. Pushes are served from the newest alone, and every byte of an older block is taken.
use Rattle.std.specs.Prelude.{◌≡◌, ℕ, ◌+◌, ◌-◌, ◌^◌, ◌≤◌, Bool, true, false, cond, ◌&&◌, ◌||◌, List, [], ◌∷◌, length, nat_le, nat_lt, slice_index, slice_set}
use Rattle.allocator.specs.Layouts.{pad}

-- the address of the first usable byte, how many bytes are taken from there on, and all usable bytes
pub record Block : Type 0 where
  pub base : ℕ
  pub mark : ℕ
  pub bytes : List ℕ

abbrev pub Memory : Type 0
Memory = List Block

-- the address of the first byte that is not taken
abbrev pub top : Block → ℕ
top b = b.base + b.mark

-- is the address one of so many from the first on
abbrev pub spans : ℕ → ℕ → ℕ → Bool
spans first many at = nat_le first at && nat_lt at (first + many)

abbrev pub inside : Block → ℕ → Bool
inside b at = spans b.base (length b.bytes) at

abbrev pub taken_in : Block → ℕ → Bool
taken_in b at = spans b.base b.mark at

-- is the address in a block
abbrev pub within : Memory → ℕ → Bool
within [] at = false
within (b ∷ older) at = inside b at || within older at

-- is its byte taken
abbrev pub taken : Memory → ℕ → Bool
taken [] at = false
taken (b ∷ older) at = taken_in b at || taken older at

-- the byte at an address, and 0 outside all blocks
abbrev pub byte_at : Memory → ℕ → ℕ
byte_at [] at = 0
byte_at (b ∷ older) at = cond (inside b at) (slice_index b.bytes (at - b.base)) (byte_at older at)

-- the block shares no address with the others
abbrev pub Apart : Block → Memory → Type 0
Apart b m = (at : ℕ) → inside b at ≡ true → within m at ≡ false

abbrev pub AllFull : Memory → Type 0
AllFull [] = Unit {0}
AllFull (b ∷ older) = (b.mark ≡ length b.bytes) × AllFull older

abbrev pub Lawful : Memory → Type 0
Lawful [] = Unit {0}
Lawful (b ∷ older) = (b.mark ≤ length b.bytes) × (b.base + length b.bytes ≤ 2 ^ 48) × Apart b older × AllFull older × Lawful older

abbrev pub marked : Block → ℕ → Block
marked b mark = record { base = b.base; mark = mark; bytes = b.bytes }

-- does the newest block have room for a span of that size and alignment
abbrev pub fits : Memory → ℕ → ℕ → Bool
fits [] size align = false
fits (b ∷ older) size align = nat_le (pad (top b) align + size) (length b.bytes - b.mark)

-- where the newest block places a span, and the memory after it
abbrev pub placed : Memory → ℕ → ℕ
placed [] align = 0
placed (b ∷ older) align = top b + pad (top b) align

abbrev pub pushed : Memory → ℕ → ℕ → Memory
pushed [] size align = []
pushed (b ∷ older) size align = marked b (b.mark + (pad (top b) align + size)) ∷ older

-- the memory once a newer block is to stand before it
abbrev pub full : Memory → Memory
full [] = []
full (b ∷ older) = marked b (length b.bytes) ∷ older

-- the memory after a pop: the newest block's mark goes back to the address, and an older block's span stays as it is
abbrev pub popped : Memory → ℕ → Memory
popped [] at = []
popped (b ∷ older) at = cond (taken_in b at) (marked b (at - b.base)) b ∷ older

-- the memory after a store
abbrev pub written : Block → ℕ → ℕ → Block
written b at byte = record { base = b.base; mark = b.mark; bytes = cond (inside b at) (slice_set b.bytes (at - b.base) byte) b.bytes }

abbrev pub stored : Memory → ℕ → ℕ → Memory
stored [] at byte = []
stored (b ∷ older) at byte = written b at byte ∷ stored older at byte
