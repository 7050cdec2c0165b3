-- Worked runs: each exists, so the law of sessions speaks of something.
use Rattle.std.specs.Prelude.{◌≡◌, ℕ, List, [], ◌∷◌, replicate}
use Rattle.allocator.specs.Memory.{Block, Memory, Lawful}
use Rattle.allocator.specs.declared.Allocator.{Ghosts}
use Rattle.allocator.specs.declared.fault.Cause.TheVariants.{FixedBuffer}
use Rattle.allocator.specs.declared.fault.Fault.TheVariants.{DoesNotFit}
use Rattle.session.specs.Ledger.{new_span}
use Rattle.session.specs.Calls.{push, pop, pop_newest, load, store, granted, done, byte, refused, Event, event}
use Rattle.session.specs.Steps.{State, new_state, fresh}
use Rattle.session.specs.Sessions.{state}
use Rattle.session.specs.Runs.{Run}
use Rattle.session.specs.Growth.{Life, held}
use Rattle.session.specs.declared.fault.Fault.TheVariants.{NotLive, Outside, Allocator}
use Rattle.session.specs.declared.session.Session.{Session}

-- blocks that keep the rules of memory
pub record Blocks : Type 0 where
  pub memory : Memory
  pub lawful : Lawful memory

-- blocks alone, as an allocator under the rules of all and no others
abbrev pub bare : Ghosts Blocks
bare =
    record {
      blocks = λ m. m.memory;
      lawful = λ m. m.lawful;
      pushes = λ m size align r m'. Unit {0};
      pops = λ m at size r m'. Unit {0};
      stores = λ m at byte r m'. Unit {0};
    }

-- a session that is opened on these blocks comes to that state by these calls, the newest first
pub record Comes (start : Memory) (events : List Event) (end : State) : Type 0 where
  pub first : Session Blocks
  pub last : Session Blocks
  pub opens : state bare first ≡ fresh start
  pub run : Run bare first events last
  pub ends : state bare last ≡ end

abbrev pub block : ℕ → ℕ → ℕ → Block
block base mark many = record { base = base; mark = mark; bytes = replicate many 0 }

-- a push that lands on popped bytes: the pop leaves the padding before its span taken
abbrev pub LandsOnPopped : Type 0
LandsOnPopped = Comes (block 0 0 32 ∷ [])
    (event (push 1 1) (granted 3 8) ∷ event pop_newest done ∷ event (push 8 8) (granted 2 8) ∷ event (push 1 1) (granted 1 0) ∷ [])
    (new_state (block 0 9 32 ∷ []) (new_span 3 8 1 1 ∷ new_span 1 0 1 1 ∷ []) 3)

-- a growth, and then a pop in an older block, which stays full
abbrev pub GrowsAndPops : Type 0
GrowsAndPops = Comes (block 16 0 16 ∷ [])
    (event (pop 1) done ∷ event pop_newest done ∷ event (push 24 8) (granted 2 64) ∷ event (push 12 4) (granted 1 16) ∷ [])
    (new_state (block 64 0 48 ∷ block 16 16 16 ∷ []) [] 2)

-- a refused push, and a byte read as it was stored
abbrev pub RefusesAndReads : Type 0
RefusesAndReads = Comes (block 0 0 16 ∷ [])
    (event (load 1 3) (byte 7) ∷ event (store 1 3 7) done ∷ event (load 1 8) (refused Outside) ∷ event (pop 2) (refused NotLive)
    ∷ event (push 16 1) (refused (Allocator (DoesNotFit FixedBuffer))) ∷ event (push 8 8) (granted 1 0) ∷ [])
    (new_state (record { base = 0; mark = 8; bytes = 0 ∷ 0 ∷ 0 ∷ 7 ∷ replicate 12 0 } ∷ []) (new_span 1 0 8 8 ∷ []) 1)

-- An arena of one block of 32 bytes grows for the same pushes: 48 bytes want a block of 64, it then holds 96, and its need is 36 bytes and twice 7 of padding.
abbrev pub GrowsOnce : Type 0
GrowsOnce =
    Life 32 (block 16 0 16 ∷ []) (event (push 24 8) (granted 2 64) ∷ event (push 12 4) (granted 1 16) ∷ [])
    (new_state (block 64 24 48 ∷ block 16 16 16 ∷ []) (new_span 2 64 24 8 ∷ new_span 1 16 12 4 ∷ []) 2) 1 50
    × (held (block 64 24 48 ∷ block 16 16 16 ∷ []) ≡ 96)

pub record SessionFigures : Type 0 where
  pub lands : LandsOnPopped
  pub grows : GrowsAndPops
  pub refuses : RefusesAndReads
  pub arena : GrowsOnce
