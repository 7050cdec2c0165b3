-- The statistics of a tracker below a session are the ledger's numbers.
use Rattle.std.specs.Prelude.{◌≡◌, List, length}
use Rattle.allocator.specs.Stats.{after_push, after_pop, min_capacity}
use Rattle.allocator.specs.declared.Allocator.{Ghosts}
use Rattle.allocator.specs.declared.AllocationStats.{AllocationStats}
use Rattle.allocator.specs.declared.AllocationTracker.{AllocationTracker}
use Rattle.session.specs.Ledger.{Ledger, bytes, need}
use Rattle.session.specs.Calls.{Event, ledger_of}
use Rattle.session.specs.Runs.{Run}
use Rattle.session.specs.declared.session.Session.{Session}

-- a tracker of an allocator, as an allocator
abbrev pub tracked : {T : Type 0} → Ghosts T → Ghosts (AllocationTracker T)
tracked allocator =
    record {
      blocks = λ t. allocator.blocks t.inner;
      lawful = λ t. allocator.lawful t.inner;
      pushes = λ t size align r t'. allocator.pushes t.inner size align r t'.inner × (t'.stats ≡ after_push t.stats size align r);
      pops = λ t at size r t'. allocator.pops t.inner at size r t'.inner × (t'.stats ≡ after_pop t.stats size r);
      stores = λ t at byte r t'. allocator.stores t.inner at byte r t'.inner × (t'.stats ≡ t.stats);
    }

-- the statistics are the ledger's numbers, and the capacity that they ask for is its need
pub record Counts (stats : AllocationStats) (ledger : Ledger) : Type 0 where
  pub live_bytes : stats.bytes_allocated ≡ bytes ledger.live
  pub live_spans : stats.allocations ≡ length ledger.live
  pub peak_bytes : stats.max_bytes_allocated ≡ ledger.peak_bytes
  pub peak_spans : stats.max_allocations ≡ ledger.peak_spans
  pub largest : stats.max_alignment ≡ ledger.largest
  pub capacity : min_capacity stats ≡ need ledger

-- so after every run from the session, over a tracker
abbrev pub StatisticsLaw : {T : Type 0} → Ghosts T → Session (AllocationTracker T) → Type 0
StatisticsLaw {T} allocator first =
    (events : List Event) (s : Session (AllocationTracker T)) → Run (tracked allocator) first events s → Counts s.inner.stats (ledger_of events)
