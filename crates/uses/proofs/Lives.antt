-- The growth law at each moment of an arena's life.
use Rattle.std.proofs.Common.{◌≡◌, ℕ, ◌<◌, List, [], sym, refl, subst}
use Rattle.allocator.specs.declared.Allocator as allocators
use Rattle.source.specs.declared.BlockSource.{Ghosts}
use Rattle.arena.specs.Rings.{newest_size, total}
use Rattle.arena.specs.Meaning.{memory_of}
use Rattle.arena.specs.Arenas as arenas
use Rattle.arena.specs.Arenas.{blocks_of}
use Rattle.arena.specs.Views.{memory_at}
use Rattle.arena.specs.declared.arena.Arena.{Arena}
use Rattle.arena.specs.declared.arena.ArenaHandle.{ArenaHandle}
use Rattle.session.specs.Calls.{Event}
use Rattle.session.specs.Steps.{State, fresh}
use Rattle.session.specs.Sessions.{state}
use Rattle.session.specs.Runs.{Run}
use Rattle.session.specs.Growth as growth
use Rattle.session.specs.Growth.{GrowsAsArena, largest_need}
use Rattle.session.specs.Statistics.{tracked}
use Rattle.session.specs.declared.session.Session.{Session}
use Rattle.session.proofs.Uses.{growth_law}
use Rattle.uses.specs.Handles.{handle}
use Rattle.uses.specs.Lives.{Moment, idle, acquired, visited, Life, opened, reopens, shrinks, acquires, visits, tracks, releases, unvisited, Bounded, growths_at, held_at, ArenaLaw, Released}
use Rattle.uses.proofs.Grows.{handle-grows, tracker-grows}
use Rattle.uses.proofs.Rests.{Rest, Busy, busy-bounded, rest-shrunk, rest-acquired, busy-released, rest-some}

-- a session over an acquired handle, direct or tracked, is a use of the life
session-busy : {A : Type 0} (al : allocators.Ghosts A) (growths : A → ℕ) → GrowsAsArena al growths → (first most : ℕ) (start : State) (count : ℕ) (begun : Session A) →
    state al begun ≡ start → growths begun.inner ≡ count → growth.Life first start.memory [] start count most →
    {events : List Event} {s : Session A} → Run al begun events s → Busy first (al.blocks s.inner) (growths s.inner) (largest_need most events)
session-busy al growths grows first most start count begun is counts life {events = events} {s = s} run =
    let here : growth.Life first (state al begun).memory [] (state al begun) count most = subst (λ (x : State). growth.Life first x.memory [] x count most) (sym is) life in
    let now : growth.Life first (state al begun).memory [] (state al begun) (growths begun.inner) most =
    subst (λ (n : ℕ). growth.Life first (state al begun).memory [] (state al begun) n most) (sym counts) here in
    record {
      start = (state al begun).memory;
      events = events;
      at = state al s;
      life = (growth_law al begun growths grows first most now events s run).0;
      is = refl;
    }

module _ {S : Type 0} (source : Ghosts S) (first : ℕ) where
  abbrev Idle : Arena S source → ℕ → Type 0
  Idle a most = Rest first (source.state a.source).blocks (blocks_of a.ring) a.growths most

  abbrev Taken : ArenaHandle S source → ℕ → Type 0
  Taken h most = growth.Life first (memory_at source.state h) [] (fresh (memory_at source.state h)) h.arena.growths most

  abbrev Used : ArenaHandle S source → ℕ → Type 0
  Used h most = Busy first (memory_at source.state h) h.arena.growths most

  abbrev Inv : Moment source → ℕ → Type 0
  Inv (idle a) most = Idle a most
  Inv (acquired h) most = Taken h most
  Inv (visited h) most = Used h most

  used : (h : ArenaHandle S source) (most : ℕ) → Taken h most → Used h most
  used h most life = record { start = memory_at source.state h; events = []; at = fresh (memory_at source.state h); life = life; is = refl }

  released : (h : ArenaHandle S source) (a : Arena S source) (most : ℕ) → Used h most → Released source h a → Idle a most
  released h a most busy r =
      subst (λ (x : arenas.Arena). Rest first x.source.blocks x.blocks x.growths most) (sym r.after)
      (busy-released first (source.state h.arena.source).blocks (blocks_of h.arena.ring) h.used h.arena.growths most h.arena.kept h.arena.ring.rises busy)

  life-inv : (begun : Arena S source) → 0 < first → Idle begun 0 → {now : Moment source} {most : ℕ} → Life source begun now most → Inv now most
  life-inv begun some start opened = start
  life-inv begun some start (reopens {a = a} {a' = a'} {most = most} life opens) =
      let rest = life-inv begun some start life in
      subst (λ (x : arenas.Arena). Rest first x.source.blocks x.blocks x.growths most)
      (sym (opens.again (rest-some first a.growths most (blocks_of a.ring) some a.counted rest.bounds)).1) rest
  life-inv begun some start (shrinks {a = a} {a' = a'} {most = most} life r) =
      subst (λ (x : arenas.Arena). Rest first x.source.blocks x.blocks x.growths most) (sym r.after)
      (rest-shrunk first (source.state a.source) (blocks_of a.ring) a.growths most a.kept a.ring.rises (life-inv begun some start life))
  life-inv begun some start (acquires {a = a} {h = h} {most = most} life r) =
      let there = rest-acquired first (source.state a.source) (blocks_of a.ring) a.growths most a.kept (life-inv begun some start life) in
      let here : growth.Life first (memory_of (source.state h.arena.source).blocks (blocks_of h.arena.ring) 0) [] (fresh (memory_of (source.state h.arena.source).blocks (blocks_of h.arena.ring) 0)) h.arena.growths most =
      subst (λ (x : arenas.Arena). growth.Life first (memory_of x.source.blocks x.blocks 0) [] (fresh (memory_of x.source.blocks x.blocks 0)) x.growths most) (sym r.after) there in
      subst (λ (n : ℕ). growth.Life first (memory_of (source.state h.arena.source).blocks (blocks_of h.arena.ring) n) [] (fresh (memory_of (source.state h.arena.source).blocks (blocks_of h.arena.ring) n)) h.arena.growths most) (sym r.mark) here
  life-inv begun some start (visits {h = h} {most = most} {begun = opens} {s = s} {events = events} life same is run) =
      session-busy (handle source) (λ k. k.arena.growths) (handle-grows source) first most (fresh (memory_at source.state h)) h.arena.growths opens is
      (subst (λ (x : ArenaHandle S source). opens.inner.arena.growths ≡ x.arena.growths) same refl) (life-inv begun some start life) run
  life-inv begun some start (tracks {h = h} {most = most} {begun = opens} {s = s} {events = events} life same is run) =
      session-busy (tracked (handle source)) (λ t. t.inner.arena.growths) (tracker-grows source) first most (fresh (memory_at source.state h)) h.arena.growths opens is
      (subst (λ (x : ArenaHandle S source). opens.inner.inner.arena.growths ≡ x.arena.growths) same refl) (life-inv begun some start life) run
  life-inv begun some start (releases {h = h} {a = a} {most = most} life r) = released h a most (life-inv begun some start life) r
  life-inv begun some start (unvisited {h = h} {a = a} {most = most} life r) = released h a most (used h most (life-inv begun some start life)) r

  in-use : (h : ArenaHandle S source) (most : ℕ) → Used h most → Bounded first h.arena.growths most (total (blocks_of h.arena.ring))
  in-use h most busy = busy-bounded first (source.state h.arena.source).blocks (blocks_of h.arena.ring) h.used h.arena.growths most h.arena.kept h.arena.ring.rises busy

  inv-bounded : (now : Moment source) (most : ℕ) → Inv now most → Bounded first (growths_at now) most (held_at now)
  inv-bounded (idle a) most rest = rest.bounds
  inv-bounded (acquired h) most taken = in-use h most (used h most taken)
  inv-bounded (visited h) most busy = in-use h most busy

pub arena_law : {S : Type 0} (source : Ghosts S) (a : Arena S source) → 0 < newest_size (blocks_of a.ring) →
    Rest (newest_size (blocks_of a.ring)) (source.state a.source).blocks (blocks_of a.ring) a.growths 0 → ArenaLaw source a
arena_law source a some rest now most life = inv-bounded source (newest_size (blocks_of a.ring)) now most (life-inv source (newest_size (blocks_of a.ring)) a some rest life)
