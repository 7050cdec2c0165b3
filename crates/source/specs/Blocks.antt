-- What a source of blocks stands for: its outstanding blocks with their bytes, the newest first, and what was asked of it.
use Rattle.std.specs.Prelude.{◌≡◌, ℕ, ◌+◌, ◌-◌, ◌%◌, ◌^◌, ◌<◌, ◌≤◌, Bool, true, false, cond, ◌||◌, List, [], ◌∷◌, length, Some, None, Option, ◌==◌, slice_index, slice_set}
use Rattle.allocator.specs.Memory.{spans}
use Rattle.source.specs.declared.request.Outcome.TheVariants.{Granted, Refused}
use Rattle.source.specs.declared.request.Request.{Request}

-- where a block lies
pub record Place : Type 0 where
  pub base : ℕ
  pub size : ℕ

-- an outstanding block: its first address, and its bytes
pub record Outstanding : Type 0 where
  pub base : ℕ
  pub bytes : List ℕ

-- the requests are counted modulo 2^64; of the last one, once there is one, there are the size and the outcome
pub record Source : Type 0 where
  pub blocks : List Outstanding
  pub requests : ℕ
  pub last : Option Request

abbrev pub places : List Outstanding → List Place
places [] = []
places (b ∷ bs) = record { base = b.base; size = length b.bytes } ∷ places bs

-- is the address one of the block's
abbrev pub inside : Outstanding → ℕ → Bool
inside b at = spans b.base (length b.bytes) at

abbrev pub within : List Outstanding → ℕ → Bool
within [] at = false
within (b ∷ bs) at = inside b at || within bs at

-- does one of the blocks start at the address
abbrev pub starts : List Outstanding → ℕ → Bool
starts [] at = false
starts (b ∷ bs) at = b.base == at || starts bs at

-- the bytes of the block that starts at the address, and none where there is no such block
abbrev pub contents : List Outstanding → ℕ → List ℕ
contents [] at = []
contents (b ∷ bs) at = cond (b.base == at) b.bytes (contents bs at)

-- the byte at an address, and 0 outside all blocks
abbrev pub byte_at : List Outstanding → ℕ → ℕ
byte_at [] at = 0
byte_at (b ∷ bs) at = cond (inside b at) (slice_index b.bytes (at - b.base)) (byte_at bs at)

-- the blocks but for the one that starts at the address
abbrev pub without : List Outstanding → ℕ → List Outstanding
without [] at = []
without (b ∷ bs) at = cond (b.base == at) (without bs at) (b ∷ without bs at)

-- the blocks after a store
abbrev pub written : Outstanding → ℕ → ℕ → Outstanding
written b at byte = record { base = b.base; bytes = cond (inside b at) (slice_set b.bytes (at - b.base) byte) b.bytes }

abbrev pub stored : List Outstanding → ℕ → ℕ → List Outstanding
stored [] at byte = []
stored (b ∷ bs) at byte = written b at byte ∷ stored bs at byte

-- a block is not empty, starts at a multiple of 8, and ends at or below 2^48
pub record Sound (b : Outstanding) : Type 0 where
  pub some : 0 < length b.bytes
  pub eighth : b.base % 8 ≡ 0
  pub high : b.base + length b.bytes ≤ 2 ^ 48

-- it shares no address with the others
abbrev pub Apart : Outstanding → List Outstanding → Type 0
Apart b bs = (at : ℕ) → inside b at ≡ true → within bs at ≡ false

abbrev pub Lawful : List Outstanding → Type 0
Lawful [] = Unit {0}
Lawful (b ∷ bs) = Sound b × Apart b bs × Lawful bs

-- a source that nothing was asked of
abbrev pub untouched : Source
untouched = record { blocks = []; requests = 0; last = None }

-- the source with those blocks in place of its own, and nothing asked
abbrev pub having : Source → List Outstanding → Source
having s bs = record { blocks = bs; requests = s.requests; last = s.last }

-- the source once a request was granted, by that block
abbrev pub granted : Source → Outstanding → Source
granted s b = record { blocks = b ∷ s.blocks; requests = (s.requests + 1) % 2 ^ 64; last = Some (record { size = length b.bytes; outcome = Granted }) }

-- the source once a request of that size was refused
abbrev pub refused : Source → ℕ → Source
refused s size = record { blocks = s.blocks; requests = (s.requests + 1) % 2 ^ 64; last = Some (record { size = size; outcome = Refused }) }
