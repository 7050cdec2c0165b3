-- Jobs: the calls of a session, and calls that are built on them, as a vector's are.
use Rattle.std.specs.Prelude.{◌≡◌, ℕ, List, [], ◌∷◌, ◌++◌, ◌≢◌}
use Rattle.allocator.specs.declared.Allocator.{Ghosts}
use Rattle.session.specs.Calls.{Call, store, Answer, done, Event, event, ledger_of}
use Rattle.session.specs.Steps.{fresh}
use Rattle.session.specs.Sessions.{state, Performs}
use Rattle.session.specs.Laws.{Separation, Need}
use Rattle.session.specs.Runs.{Run}
use Rattle.session.specs.declared.session.Session.{Session}

-- The session came, by whatever calls, from one that was just opened.
pub record Regular {A : Type 0} (allocator : Ghosts A) (s : Session A) : Type 0 where
  pub first : Session A
  pub fresh : state allocator first ≡ fresh (state allocator first).memory
  pub events : List Event
  pub run : Run allocator first events s

-- What a call that is built on the session's calls does to a regular session: these calls, with these answers.
abbrev pub Goes : {A : Type 0} → Ghosts A → Session A → List Event → Session A → Type 0
Goes allocator s events s' = Regular allocator s → Run allocator s events s'

-- A job: calls of the session, and calls that are built on them, in any order and number, some refused. Each step is what the contract of a call
-- gives.
pub data Job {A : Type 0} (allocator : Ghosts A) (first : Session A) : List Event → Session A → Type 0 where
  begun : Job allocator first [] first
  calls : {earlier : List Event} {s s' : Session A} {call : Call} {answer : Answer} →
      Job allocator first earlier s → Performs allocator s call answer s' → Job allocator first (event call answer ∷ earlier) s'
  builds : {earlier events : List Event} {s s' : Session A} →
      Job allocator first earlier s → Goes allocator s events s' → Job allocator first (events ++ earlier) s'

-- After each call of every job from the session, it is a run of the session's calls, and separation and need hold.
pub record Holds {A : Type 0} (allocator : Ghosts A) (first : Session A) (events : List Event) (s : Session A) : Type 0 where
  pub run : Run allocator first events s
  pub separation : Separation (ledger_of events) (state allocator s)
  pub need : Need (state allocator first).memory (ledger_of events) (state allocator s)

abbrev pub JobLaw : {A : Type 0} → Ghosts A → Session A → Type 0
JobLaw {A} allocator first = (events : List Event) (s : Session A) → Job allocator first events s → Holds allocator first events s

-- none of these calls stored through the grant
abbrev pub Unstored : ℕ → List Event → Type 0
Unstored grant [] = Unit {0}
Unstored grant (last ∷ earlier) = ((offset value : ℕ) → last.call ≡ store grant offset value → last.answer ≢ done) × Unstored grant earlier
