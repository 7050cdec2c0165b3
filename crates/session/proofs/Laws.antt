-- The law of sessions, from the law of their traces.
use Rattle.std.proofs.Common.{◌≡◌, List, [], ◌++◌, sym, subst}
use Rattle.allocator.specs.Memory.{Memory, Lawful}
use Rattle.allocator.specs.declared.Allocator.{Ghosts}
use Rattle.session.specs.Calls.{Event}
use Rattle.session.specs.Steps.{State, fresh, Trace, started, stepped}
use Rattle.session.specs.Sessions.{state}
use Rattle.session.specs.Runs.{Run, opened, visited, SessionLaw}
use Rattle.session.specs.declared.session.Session.{Session}
use Rattle.session.proofs.Traces.{trace_law}

-- a run that goes on from the end of another
pub run-after : {A : Type 0} (al : Ghosts A) {first s s' : Session A} {earlier later : List Event} → Run al first earlier s → Run al s later s' → Run al first (later ++ earlier) s'
run-after al run opened = run
run-after al run (visited more performs) = visited (run-after al run more) performs

module _ {A : Type 0} (al : Ghosts A) (first : Session A) (m : Memory) (new : state al first ≡ fresh m) where
  pub run-trace : {events : List Event} {s : Session A} → Run al first events s → Trace (state al first).memory events (state al s)
  run-trace opened = subst (λ (x : State). Trace x.memory [] x) (sym new) (started (subst (λ (x : State). Lawful x.memory) new (al.lawful first.inner)))
  run-trace (visited {s' = s'} run performs) = stepped (run-trace run) performs.step (al.lawful s'.inner)

pub session_law : {A : Type 0} (al : Ghosts A) (first : Session A) (m : Memory) → state al first ≡ fresh m → SessionLaw al first
session_law al first m new events s run = trace_law (state al first).memory events (state al s) (run-trace al first m new run)
