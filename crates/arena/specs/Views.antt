-- What an arena and its handle stand for, by what their source stands for.
use Rattle.allocator.specs.Memory.{Memory, Lawful}
use Rattle.source.specs.Blocks.{Source}
use Rattle.source.specs.declared.BlockSource.{Ghosts}
use Rattle.arena.specs.declared.arena.Arena.{Arena as Idle}
use Rattle.arena.specs.declared.arena.ArenaHandle.{ArenaHandle}
use Rattle.arena.specs.Meaning.{memory_of}
use Rattle.arena.specs.Arenas.{Arena, arena_of, blocks_of}
use Rattle.arena.specs.Keeps.{memory-lawful}

abbrev pub idle_of : {S : Type 0} {g : _} → (S → Source) → Idle S g → Arena
idle_of state a = arena_of (state a.source) a.ring a.growths

abbrev pub handle_of : {S : Type 0} {g : _} → (S → Source) → ArenaHandle S g → Arena
handle_of state h = idle_of state h.arena

-- the memory of a handle
abbrev pub memory_at : {S : Type 0} {g : _} → (S → Source) → ArenaHandle S g → Memory
memory_at state h = memory_of (state h.arena.source).blocks (blocks_of h.arena.ring) h.used

-- it is lawful, by what the handle's type says
pub handle-lawful : {S : Type 0} (g : Ghosts S) (h : ArenaHandle S g) → Lawful (memory_at g.state h)
handle-lawful g h = memory-lawful (g.state h.arena.source).blocks (g.lawful h.arena.source) (blocks_of h.arena.ring) h.used h.arena.kept h.arena.ring.rises h.marked
