-- What the blocks of an arena are as the memory of an allocator, and what ties them to the source.
use Rattle.std.specs.Prelude.{◌≡◌, ℕ, ◌+◌, ◌-◌, true, List, [], ◌∷◌, length, drop, ◌≢◌}
use mathlib.Core.HLevel.{Unit-prop, ¬_prop, ×_prop, ×₃_prop}
use native.Mathlib.Nat.{ℕ_set}
use Rattle.allocator.specs.Memory.{Block, Memory}
use Rattle.allocator.specs.Memory as memory
use Rattle.source.specs.Blocks.{Outstanding, Place, within, byte_at, contents}

-- the usable bytes of a block: those past the 16 that are reserved
abbrev pub usable : List Outstanding → Place → ℕ → Block
usable bs p mark = record { base = p.base + 16; mark = mark; bytes = drop 16 (contents bs p.base) }

-- all bytes of the older blocks are taken
abbrev pub olders : List Outstanding → List Place → Memory
olders bs [] = []
olders bs (p ∷ ps) = usable bs p (p.size - 16) ∷ olders bs ps

-- and so many of the newest one's
abbrev pub memory_of : List Outstanding → List Place → ℕ → Memory
memory_of bs [] used = []
memory_of bs (p ∷ ps) used = usable bs p used ∷ olders bs ps

-- the byte at an address of the memory is the source's
pub record Loaded (bs : List Outstanding) (m : Memory) (at : ℕ) : Type 0 where
  pub within : within bs at ≡ true
  pub byte : memory.byte_at m at ≡ byte_at bs at

-- none of the places starts at the address
abbrev pub Differs : ℕ → List Place → Type 0
Differs at [] = Unit {0}
Differs at (p ∷ ps) = (at ≢ p.base) × Differs at ps

-- each block is outstanding at the source, with its size, and is no other one of the arena's
abbrev pub Kept : List Outstanding → List Place → Type 0
Kept bs [] = Unit {0}
Kept bs (p ∷ ps) = (length (contents bs p.base) ≡ p.size) × Differs p.base ps × Kept bs ps

Differs-prop : (at : ℕ) (ps : List Place) → IsProp (Differs at ps)
Differs-prop at [] = Unit-prop
Differs-prop at (p ∷ ps) = ×_prop ¬_prop (Differs-prop at ps)

-- it has one proof at most, so that it may stand in a type
pub Kept-prop : (bs : List Outstanding) (ps : List Place) → IsProp (Kept bs ps)
Kept-prop bs [] = Unit-prop
Kept-prop bs (p ∷ ps) = ×₃_prop (ℕ_set _ _) (Differs-prop p.base ps) (Kept-prop bs ps)
