-- What a caller has of the law: a round trip through a session, at any moment of any run.
use Rattle.std.specs.Prelude.{◌≡◌, ℕ, ◌⊎◌, List, Ok, Err, Result}
use Rattle.allocator.specs.declared.Allocator.{Ghosts}
use Rattle.allocator.specs.declared.fault.Cause.{Cause}
use Rattle.allocator.specs.declared.fault.Fault.TheVariants.{DoesNotFit}
use Rattle.session.specs.Calls.{Event}
use Rattle.session.specs.Sessions.{state}
use Rattle.session.specs.Runs.{Run, SessionLaw}
use Rattle.session.specs.declared.fault.Fault.{Fault}
use Rattle.session.specs.declared.fault.Fault.TheVariants.{Full, Allocator}
use Rattle.session.specs.declared.session.Session.{Session}

-- the session came, by these calls, from one that keeps the law
pub record Visited {A : Type 0} (allocator : Ghosts A) (first : Session A) (events : List Event) (s : Session A) : Type 0 where
  pub law : SessionLaw allocator first
  pub run : Run allocator first events s

-- the byte was read as it was stored, and the live spans are as they were; or there was no room, and nothing changed
abbrev pub RoundTrip : {A : Type 0} → Ghosts A → Session A → ℕ → Result ℕ Fault → Session A → Type 0
RoundTrip allocator s value (Ok read) s' = (read ≡ value) × ((state allocator s').live ≡ (state allocator s).live) × ((events : List Event) × Run allocator s events s')
RoundTrip allocator s value (Err fault) s' = ((fault ≡ Full) ⊎ ((cause : Cause) × (fault ≡ Allocator (DoesNotFit cause)))) × (state allocator s' ≡ state allocator s)

abbrev pub RoundTrips : {A : Type 0} → Ghosts A → Session A → ℕ → Result ℕ Fault → Session A → Type 0
RoundTrips {A} allocator s value r s' = (first : Session A) (events : List Event) → Visited allocator first events s → RoundTrip allocator s value r s'
