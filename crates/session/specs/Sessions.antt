-- What a session stands for, and what a call of it does: a step, with what the allocator's own rules say of it.
use Rattle.std.specs.Prelude.{◌≡◌, ℕ, ◌+◌, List, [], ◌∷◌, Ok, Err, Result, ◌≢◌}
use Rattle.allocator.specs.declared.Allocator.{Ghosts}
use Rattle.allocator.specs.declared.fault.Fault as below
use Rattle.allocator.specs.declared.fault.Fault.TheVariants.{Size, Alignment, DoesNotFit, Address}
use Rattle.session.specs.Ledger.{Span, Among}
use Rattle.session.specs.Calls.{Call, push, pop, pop_newest, load, store, Answer, granted, done, byte, refused}
use Rattle.session.specs.Steps.{State, Step}
use Rattle.session.specs.Records as records
use Rattle.session.specs.declared.fault.Fault.{Fault}
use Rattle.session.specs.declared.fault.Fault.TheVariants.{NotNewest, NotLive, Full, Outside, Allocator}
use Rattle.session.specs.declared.grant.Grant.{Grant}
use Rattle.session.specs.declared.session.Session.{Session}

-- the answers of the calls, as the ledger has them
abbrev pub pushed : Result (Grant × ℕ) Fault → Answer
pushed (Ok p) = granted p.0.number p.1
pushed (Err fault) = refused fault

abbrev pub popped : Result (Unit {0}) (Grant × Fault) → Answer
popped (Ok u) = done
popped (Err e) = refused e.1

abbrev pub ended : Result (Unit {0}) Fault → Answer
ended (Ok u) = done
ended (Err fault) = refused fault

abbrev pub loaded : Result ℕ Fault → Answer
loaded (Ok value) = byte value
loaded (Err fault) = refused fault

abbrev pub state : {A : Type 0} → Ghosts A → Session A → State
state allocator s = record { memory = allocator.blocks s.inner; live = records.live s.spans.items; given = s.given }

-- What the allocator's own rules say of a call that led it from a to a'. The session's own refusals leave it as it was.
module _ {A : Type 0} (allocator : Ghosts A) (a a' : A) where
  abbrev pub OwnFault : ℕ → ℕ → below.Fault → Type 0
  OwnFault size align Size = a' ≡ a
  OwnFault size align Alignment = a' ≡ a
  OwnFault size align (DoesNotFit cause) = allocator.pushes a size align (Err (DoesNotFit cause)) a'
  OwnFault size align Address = ⊥

  abbrev pub OwnUnserved : ℕ → ℕ → Fault → Type 0
  OwnUnserved size align (Allocator fault) = OwnFault size align fault
  OwnUnserved size align Full = a' ≡ a
  OwnUnserved size align NotNewest = ⊥
  OwnUnserved size align NotLive = ⊥
  OwnUnserved size align Outside = ⊥

  abbrev pub OwnPush : ℕ → ℕ → Answer → Type 0
  OwnPush size align (granted grant at) = allocator.pushes a size align (Ok at) a'
  OwnPush size align (refused fault) = OwnUnserved size align fault
  OwnPush size align done = ⊥
  OwnPush size align (byte value) = ⊥

  -- a pop is of the newest span
  abbrev pub OwnPopped : List Span → Type 0
  OwnPopped [] = ⊥
  OwnPopped (span ∷ older) = allocator.pops a span.at span.size (Ok tt) a'

  -- a store is into a live span of the grant
  abbrev pub OwnStored : List Span → ℕ → ℕ → ℕ → Type 0
  OwnStored live grant offset value = (span : Span) × Among span live × (span.grant ≡ grant) × allocator.stores a (span.at + offset) value (Ok tt) a'

  -- a pop or a store that is done has its rule, and one that is refused leaves the allocator as it was
  abbrev pub OwnDone : Type 0 → Answer → Type 0
  OwnDone rule done = rule
  OwnDone rule (refused fault) = (fault ≢ Allocator Address) → a' ≡ a
  OwnDone rule (granted grant at) = ⊥
  OwnDone rule (byte value) = ⊥

  abbrev pub Own : List Span → Call → Answer → Type 0
  Own live (push size align) answer = OwnPush size align answer
  Own live (pop grant) answer = OwnDone (OwnPopped live) answer
  Own live pop_newest answer = OwnDone (OwnPopped live) answer
  Own live (load grant offset) answer = a' ≡ a
  Own live (store grant offset value) answer = OwnDone (OwnStored live grant offset value) answer

-- a session performed a call
pub record Performs {A : Type 0} (allocator : Ghosts A) (s : Session A) (call : Call) (answer : Answer) (s' : Session A) : Type 0 where
  pub step : Step (state allocator s) call answer (state allocator s')
  pub own : Own allocator s.inner s'.inner (state allocator s).live call answer
