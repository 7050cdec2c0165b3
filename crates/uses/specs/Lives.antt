-- The life of an arena that sessions alone visit, use after use, and how its blocks are bounded through all of it.
use Rattle.std.specs.Prelude.{◌≡◌, ℕ, ◌+◌, ◌-◌, ◌*◌, ◌^◌, ◌<◌, List, Result}
use Rattle.allocator.specs.declared.Allocator as allocators
use Rattle.allocator.specs.declared.AllocationTracker.{AllocationTracker}
use Rattle.source.specs.declared.BlockSource.{Ghosts}
use Rattle.arena.specs.Rings.{newest_size, total, before}
use Rattle.arena.specs.Arenas.{blocks_of, shrunk, Gave}
use Rattle.arena.specs.Calls.{Opens}
use Rattle.arena.specs.Views.{idle_of, handle_of, memory_at}
use Rattle.arena.specs.declared.arena.Arena.{Arena}
use Rattle.arena.specs.declared.arena.ArenaHandle.{ArenaHandle}
use Rattle.arena.specs.declared.fault.ArenaFault.{ArenaFault}
use Rattle.session.specs.Calls.{Event}
use Rattle.session.specs.Steps.{fresh}
use Rattle.session.specs.Sessions.{state}
use Rattle.session.specs.Runs.{Run}
use Rattle.session.specs.Growth.{largest_need}
use Rattle.session.specs.Statistics.{tracked}
use Rattle.session.specs.declared.session.Session.{Session}
use Rattle.uses.specs.Handles.{handle}

-- what the contracts of with_capacity, shrink, acquire and release say
abbrev pub Reopened : {S : Type 0} (source : Ghosts S) → Arena S source → ℕ → Result (Unit {0}) ArenaFault → Arena S source → Type 0
Reopened source a cap r a' = Opens (idle_of source.state a) cap r (idle_of source.state a')

pub record Shrunk {S : Type 0} (source : Ghosts S) (a a' : Arena S source) : Type 0 where
  pub after : idle_of source.state a' ≡ shrunk (idle_of source.state a)
  pub gave : Gave source.gives a.source (before (blocks_of a.ring)) a'.source

pub record Acquired {S : Type 0} (source : Ghosts S) (a : Arena S source) (h : ArenaHandle S source) : Type 0 where
  pub mark : h.used ≡ 0
  pub after : handle_of source.state h ≡ shrunk (idle_of source.state a)
  pub gave : Gave source.gives a.source (before (blocks_of a.ring)) h.arena.source

pub record Released {S : Type 0} (source : Ghosts S) (h : ArenaHandle S source) (a : Arena S source) : Type 0 where
  pub same : a.source ≡ h.arena.source
  pub after : idle_of source.state a ≡ handle_of source.state h

-- A moment of the life: the arena is idle, or a handle to it is acquired that no session visited, or one that a session visits.
pub data Moment {S : Type 0} (source : Ghosts S) : Type 0 where
  idle : Arena S source → Moment source
  acquired : ArenaHandle S source → Moment source
  visited : ArenaHandle S source → Moment source

-- The arena that was opened as `first` came to this moment, and `most` is the largest need of its uses so far. Each way on is what the contracts of
-- its calls give: of a further opening, which is refused; of shrink; of acquire; of Session::open or Session::track, and then of any number of the
-- session's calls; of finish and release; and of release with no session before it.
pub data Life {S : Type 0} (source : Ghosts S) (first : Arena S source) : Moment source → (most : ℕ) → Type 0 where
  opened : Life source first (idle first) 0
  reopens : {a a' : Arena S source} {most cap : ℕ} {r : Result (Unit {0}) ArenaFault} → Life source first (idle a) most → Reopened source a cap r a' → Life source first (idle a') most
  shrinks : {a a' : Arena S source} {most : ℕ} → Life source first (idle a) most → Shrunk source a a' → Life source first (idle a') most
  acquires : {a : Arena S source} {h : ArenaHandle S source} {most : ℕ} → Life source first (idle a) most → Acquired source a h → Life source first (acquired h) most
  visits : {h : ArenaHandle S source} {most : ℕ} {begun s : Session (ArenaHandle S source)} {events : List Event} → Life source first (acquired h) most →
      begun.inner ≡ h → state (handle source) begun ≡ fresh (memory_at source.state h) →
      Run (handle source) begun events s → Life source first (visited s.inner) (largest_need most events)
  tracks : {h : ArenaHandle S source} {most : ℕ} {begun s : Session (AllocationTracker (ArenaHandle S source))} {events : List Event} → Life source first (acquired h) most →
      begun.inner.inner ≡ h → state (tracked (handle source)) begun ≡ fresh (memory_at source.state h) →
      Run (tracked (handle source)) begun events s → Life source first (visited s.inner.inner) (largest_need most events)
  releases : {h : ArenaHandle S source} {a : Arena S source} {most : ℕ} → Life source first (visited h) most → Released source h a → Life source first (idle a) most
  unvisited : {h : ArenaHandle S source} {a : Arena S source} {most : ℕ} → Life source first (acquired h) most → Released source h a → Life source first (idle a) most

-- what Arena::held and ArenaHandle::held answer, and growths
abbrev pub held_at : {S : Type 0} {source : Ghosts S} → Moment source → ℕ
held_at (idle a) = total (blocks_of a.ring)
held_at (acquired h) = total (blocks_of h.arena.ring)
held_at (visited h) = total (blocks_of h.arena.ring)

abbrev pub growths_at : {S : Type 0} {source : Ghosts S} → Moment source → ℕ
growths_at (idle a) = a.growths
growths_at (acquired h) = h.arena.growths
growths_at (visited h) = h.arena.growths

-- Growth, by the size of the first block, the growths, the largest need and the bytes held.
pub record Bounded (first growths most held : ℕ) : Type 0 where
  pub ungrown : growths ≡ 0 → held ≡ first
  -- with each growth before the last, the first size doubled, and it is still below the need
  pub rarely : 0 < growths → first * 2 ^ (growths - 1) < most + 16
  pub tightly : 0 < growths → held < 4 * (most + 16)

-- Growth holds at every moment of every life from the arena on.
abbrev pub ArenaLaw : {S : Type 0} (source : Ghosts S) → Arena S source → Type 0
ArenaLaw source first = (now : Moment source) (most : ℕ) → Life source first now most → Bounded (newest_size (blocks_of first.ring)) (growths_at now) most (held_at now)

-- A life that has come to the idle arena goes on with every run from the session, whose allocator is the arena's handle or has it inside.
abbrev pub Visits : {S A : Type 0} (source : Ghosts S) → allocators.Ghosts A → (A → ArenaHandle S source) → Arena S source → Session A → Type 0
Visits {S} {A} source allocator inside a begun = (first : Arena S source) (most : ℕ) → Life source first (idle a) most →
    (events : List Event) (s : Session A) → Run allocator begun events s → Life source first (visited (inside s.inner)) (largest_need most events)

-- one that has come to the visited handle goes on with the idle arena
abbrev pub Leaves : {S : Type 0} (source : Ghosts S) → ArenaHandle S source → Arena S source → Type 0
Leaves {S} source h a = (first : Arena S source) (most : ℕ) → Life source first (visited h) most → Life source first (idle a) most

-- and one that has come to a handle that no session visited
abbrev pub LeavesUnvisited : {S : Type 0} (source : Ghosts S) → ArenaHandle S source → Arena S source → Type 0
LeavesUnvisited {S} source h a = (first : Arena S source) (most : ℕ) → Life source first (acquired h) most → Life source first (idle a) most

-- one that has come to an idle arena goes on with another
abbrev pub Rests : {S : Type 0} (source : Ghosts S) → Arena S source → Arena S source → Type 0
Rests {S} source a a' = (first : Arena S source) (most : ℕ) → Life source first (idle a) most → Life source first (idle a') most
