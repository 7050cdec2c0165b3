-- Worked figures of the fixed buffer and of an arena over any source.
use Rattle.std.specs.Prelude.{◌≡◌, ℕ, false, Ok}
use Rattle.allocator.specs.Memory.{fits}
use Rattle.sub_allocator.specs.Figures.{BufferFigures}
use Rattle.arena.specs.Powers.{LeastPower, least_power_of}
use Rattle.arena.specs.Rings.{opened, newest_size, room, total}
use Rattle.arena.specs.Meaning.{memory_of, Kept}
use Rattle.arena.specs.Arenas.{Arena, shrunk}
use Rattle.arena.specs.Calls.{Opens, Pushes}

-- an arena that is opened with that capacity has a block of that size
abbrev pub Makes : ℕ → ℕ → Type 0
Makes cap size = (a a' : Arena) → opened a.blocks ≡ false → Opens a cap (Ok tt) a' → newest_size a'.blocks ≡ size

-- Of an arena that is opened with capacity 1,024 and acquired, a push of 3,000 bytes takes a block of 4,096, and 6,144 are held.
-- After the release its capacity is 4,080, and so it is once it is shrunk.
abbrev pub GrowsTo4096 : Type 0
GrowsTo4096 =
    (a idle handle handle' : Arena) (at : ℕ) → opened a.blocks ≡ false → a.growths ≡ 0 → Opens a 1024 (Ok tt) idle → handle ≡ shrunk idle → Kept handle.source.blocks handle.blocks →
    Pushes handle (fits (memory_of handle.source.blocks handle.blocks 0) 3000 1) 3000 1 (Ok at) handle' →
    (newest_size handle'.blocks ≡ 4096) × (total handle'.blocks ≡ 6144) × (handle'.growths ≡ 1) × (room handle'.blocks ≡ 4080) × (room (shrunk handle').blocks ≡ 4080)

pub record ArenaFigures : Type 0 where
  pub powers : (n : ℕ) → LeastPower n (least_power_of n)
  pub none : Makes 0 16
  pub usual : Makes 1024 2048
  pub exact : Makes 2032 2048
  pub above : Makes 2033 4096
  pub grows : GrowsTo4096

pub record Figures : Type 0 where
  pub buffer : BufferFigures
  pub arena : ArenaFigures
