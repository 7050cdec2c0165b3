-- The law of sessions, over every run above every allocator.
use Rattle.std.specs.Prelude.{List, [], ◌∷◌}
use Rattle.allocator.specs.declared.Allocator.{Ghosts}
use Rattle.session.specs.Calls.{Call, Answer, Event, event, ledger_of}
use Rattle.session.specs.Sessions.{state, Performs}
use Rattle.session.specs.Laws.{Separation, Need}
use Rattle.session.specs.declared.session.Session.{Session}

-- A session came to another by calls that it performed, as the contract of each says, the newest call first.
pub data Run {A : Type 0} (allocator : Ghosts A) (first : Session A) : List Event → Session A → Type 0 where
  opened : Run allocator first [] first
  visited : {earlier : List Event} {s s' : Session A} {call : Call} {answer : Answer} →
      Run allocator first earlier s → Performs allocator s call answer s' → Run allocator first (event call answer ∷ earlier) s'

-- Separation and need hold after every run from the session, whatever was called and answered. Each moment of a run is the end of a shorter one.
abbrev pub SessionLaw : {A : Type 0} → Ghosts A → Session A → Type 0
SessionLaw {A} allocator first =
    (events : List Event) (s : Session A) → Run allocator first events s →
    Separation (ledger_of events) (state allocator s) × Need (state allocator first).memory (ledger_of events) (state allocator s)
