-- What an opening and a push do to an arena, and what they ask of its source.
use Rattle.std.specs.Prelude.{◌≡◌, ℕ, ◌+◌, ◌<◌, ◌≤◌, Bool, true, false, cond, not, ◌&&◌, List, [], ◌∷◌, length, Ok, Err, Result, nat_le}
use Rattle.allocator.specs.Layouts.{pad}
use Rattle.allocator.specs.declared.fault.Cause.TheVariants as cause
use Rattle.allocator.specs.declared.fault.Fault.{Fault}
use Rattle.allocator.specs.declared.fault.Fault.TheVariants.{DoesNotFit}
use Rattle.source.specs.Blocks.{Place, having, stored}
use Rattle.source.specs.declared.fault.SourceFault.{SourceFault}
use Rattle.source.specs.declared.fault.SourceFault.TheVariants as source
use Rattle.arena.specs.declared.fault.ArenaFault.{ArenaFault}
use Rattle.arena.specs.declared.fault.ArenaFault.TheVariants.{AlreadyOpened, Capacity, NoBlock}
use Rattle.arena.specs.Powers.{least_power_of, wanted}
use Rattle.arena.specs.Rings.{opened, newest_size}
use Rattle.arena.specs.Arenas.{Arena, begun, grown, dry}

-- what the source had answered, where it was asked: the newest block is the one that it granted
abbrev pub answered : {X E : Type 0} → Result X E → List Place → Result ℕ SourceFault
answered (Ok x) [] = Err source.NoBlock
answered (Ok x) (p ∷ ps) = Ok p.base
answered (Err e) ps = Err source.NoBlock

-- the first block is one of that size
pub record Begun (a : Arena) (want : ℕ) (a' : Arena) : Type 0 where
  pub at : ℕ
  pub bytes : List ℕ
  pub many : length bytes ≡ want
  pub after : a' ≡ begun a (record { base = at; bytes = bytes })

abbrev pub Begins : Arena → ℕ → Result (Unit {0}) ArenaFault → Arena → Type 0
Begins a want (Ok done) a' = Begun a want a'
Begins a want (Err fault) a' = (fault ≡ NoBlock) × (a' ≡ dry a want)

-- the refusals in their order, and what a refusal leaves
pub record Opens (a : Arena) (cap : ℕ) (r : Result (Unit {0}) ArenaFault) (a' : Arena) : Type 0 where
  pub again : opened a.blocks ≡ true → (r ≡ Err AlreadyOpened) × (a' ≡ a)
  pub large : opened a.blocks ≡ false → 16777216 < cap → (r ≡ Err Capacity) × (a' ≡ a)
  pub asks : opened a.blocks ≡ false → cap ≤ 16777216 → Begins a (least_power_of (cap + 16)) r a'

-- does an opening ask for a block
abbrev pub opening : List Place → ℕ → Bool
opening ps cap = not (opened ps) && nat_le cap 16777216

-- a further block is one of that size, and the span lies at its first usable address that is aligned
pub record Grown (a : Arena) (want align at : ℕ) (a' : Arena) : Type 0 where
  pub block : ℕ
  pub bytes : List ℕ
  pub many : length bytes ≡ want
  pub first : at ≡ block + 16 + pad (block + 16) align
  pub after : a' ≡ grown a (record { base = block; bytes = bytes })

abbrev pub Grows : Arena → ℕ → ℕ → Result ℕ Fault → Arena → Type 0
Grows a want align (Ok at) a' = Grown a want align at a'
Grows a want align (Err fault) a' = (fault ≡ DoesNotFit cause.NoBlock) × (a' ≡ dry a want)

-- so many bytes of the newest block are taken after the push: all up to the span's end, or as many as before a refusal
abbrev pub Marked : ℕ → ℕ → Result ℕ Fault → List Place → ℕ → Type 0
Marked used size (Ok at) [] used' = ⊥
Marked used size (Ok at) (p ∷ ps) used' = p.base + 16 + used' ≡ at + size
Marked used size (Err fault) ps used' = used' ≡ used

-- a push that the newest block has no room for
pub record Extends (a : Arena) (used size align : ℕ) (r : Result ℕ Fault) (a' : Arena) (used' : ℕ) : Type 0 where
  pub beyond : 67108864 < wanted (newest_size a.blocks) size align → (r ≡ Err (DoesNotFit cause.BlockLimit)) × (a' ≡ a)
  pub asks : wanted (newest_size a.blocks) size align ≤ 67108864 → Grows a (wanted (newest_size a.blocks) size align) align r a'
  pub marked : Marked used size r a'.blocks used'

-- A push, where the newest block has room for it or not. Only where it has none, and the block to follow is no larger than the largest, is the source asked.
pub record Pushes (a : Arena) (roomy : Bool) (size align : ℕ) (r : Result ℕ Fault) (a' : Arena) : Type 0 where
  pub unopened : opened a.blocks ≡ false → (r ≡ Err (DoesNotFit cause.Unopened)) × (a' ≡ a)
  pub served : roomy ≡ true → a' ≡ a
  pub beyond : opened a.blocks ≡ true → roomy ≡ false → 67108864 < wanted (newest_size a.blocks) size align → (r ≡ Err (DoesNotFit cause.BlockLimit)) × (a' ≡ a)
  pub asks : opened a.blocks ≡ true → roomy ≡ false → wanted (newest_size a.blocks) size align ≤ 67108864 → Grows a (wanted (newest_size a.blocks) size align) align r a'

-- does a push ask for a block
abbrev pub pushing : List Place → Bool → ℕ → ℕ → Bool
pushing ps roomy size align = opened ps && (not roomy && nat_le (wanted (newest_size ps) size align) 67108864)

-- the arena after a store to an address, where its byte is taken or not
abbrev pub putting : Arena → Bool → ℕ → ℕ → Arena
putting a on at byte = record { source = cond on (having a.source (stored a.source.blocks at byte)) a.source; blocks = a.blocks; growths = a.growths }

-- the source stored the byte, as it does; or it was not asked to, and is the same
pub record Put {S : Type 0} (stores : S → ℕ → ℕ → Result (Unit {0}) SourceFault → S → Type 0) (on : Bool) (s : S) (at byte : ℕ) (s' : S) : Type 0 where
  pub put : on ≡ true → stores s at byte (Ok tt) s'
  pub same : on ≡ false → s' ≡ s
