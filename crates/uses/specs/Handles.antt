-- A handle of an arena, as an allocator: what it promises over a source.
use Rattle.std.specs.Prelude.{◌≡◌}
use Rattle.allocator.specs.Memory.{fits, taken}
use Rattle.allocator.specs.declared.Allocator.{Ghosts}
use Rattle.source.specs.declared.BlockSource as sources
use Rattle.arena.specs.Rings.{newest_size}
use Rattle.arena.specs.Arenas.{blocks_of, Consulted}
use Rattle.arena.specs.Calls.{answered, Pushes, pushing, putting, Put}
use Rattle.arena.specs.Powers.{wanted}
use Rattle.arena.specs.Views.{handle_of, memory_at, handle-lawful}
use Rattle.arena.specs.declared.arena.ArenaHandle.{ArenaHandle}

abbrev pub handle : {S : Type 0} → (source : sources.Ghosts S) → Ghosts (ArenaHandle S source)
handle source =
    record {
      blocks = λ h. memory_at source.state h;
      lawful = λ h. handle-lawful source h;
      pushes = λ h size align r h'. Pushes (handle_of source.state h) (fits (memory_at source.state h) size align) size align r (handle_of source.state h')
          × Consulted source.chooses (pushing (blocks_of h.arena.ring) (fits (memory_at source.state h) size align) size align) h.arena.source (wanted (newest_size (blocks_of h.arena.ring)) size align) (answered r (blocks_of h'.arena.ring)) h'.arena.source;
      pops = λ h at size r h'. (handle_of source.state h' ≡ handle_of source.state h) × (h'.arena.source ≡ h.arena.source);
      stores = λ h at byte r h'. (handle_of source.state h' ≡ putting (handle_of source.state h) (taken (memory_at source.state h) at) at byte)
          × Put source.stores (taken (memory_at source.state h) at) h.arena.source at byte h'.arena.source;
    }
