-- The blocks of an arena: their records, the oldest first, and the places that they stand for, the newest first.
use Rattle.std.specs.Prelude.{◌≡◌, ℕ, ◌+◌, ◌-◌, ◌*◌, ◌^◌, ◌<◌, Bool, true, false, cond, ◌&&◌, List, [], ◌∷◌, length, map, reverse, ◌==◌, nat_le, nat_lt, slice_index_or}
use Rattle.source.specs.Blocks.{Place}
use Rattle.arena.specs.declared.record.BlockRecord.{BlockRecord}

abbrev pub place : BlockRecord → Place
place r = record { base = r.address; size = r.size }

-- the blocks, the newest first
abbrev pub chain : List BlockRecord → List Place
chain rs = map place (reverse rs)

-- where the record after the one at i stands: the last is linked to the first
abbrev pub after : ℕ → ℕ → ℕ
after i len = cond (nat_lt (i + 1) len) (i + 1) 0

abbrev pub Linked : List BlockRecord → Type 0
Linked rs = (i : ℕ) (d : BlockRecord) → i < length rs → (slice_index_or rs i d).next ≡ after i (length rs)

-- is there a block
abbrev pub opened : List Place → Bool
opened [] = false
opened (p ∷ ps) = true

abbrev pub newest_size : List Place → ℕ
newest_size [] = 0
newest_size (p ∷ ps) = p.size

-- the usable length of the newest block: the first 16 bytes of each are reserved
abbrev pub room : List Place → ℕ
room [] = 0
room (p ∷ ps) = p.size - 16

-- how many bytes the blocks have together
abbrev pub total : List Place → ℕ
total [] = 0
total (p ∷ ps) = p.size + total ps

-- the newest block alone, and those before it
abbrev pub newest : List Place → List Place
newest [] = []
newest (p ∷ ps) = p ∷ []

abbrev pub before : List Place → List Place
before [] = []
before (p ∷ ps) = ps

-- each has 2^4 to 2^26 bytes, twice as many as the one before it at least, and an address below 2^48
abbrev pub rising : List Place → Bool
rising [] = true
rising (p ∷ ps) = nat_le 16 p.size && (nat_le p.size 67108864 && (nat_lt p.base (2 ^ 48) && (nat_le (2 * newest_size ps) p.size && rising ps)))

-- there can have been so many growths: each doubled the newest block's size at least, from 16 on
abbrev pub counted : ℕ → List Place → Bool
counted growths [] = growths == 0
counted growths (p ∷ ps) = nat_le (2 ^ (growths + 4)) p.size
