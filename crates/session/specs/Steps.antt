-- One call of a session above any allocator: when it is refused, what it answers, and the state after it.
use Rattle.std.specs.Prelude.{◌≡◌, ℕ, suc, ◌+◌, ◌<◌, ◌≤◌, true, false, ◌⊎◌, List, [], ◌∷◌, length, Ok, Err}
use Rattle.allocator.specs.Layouts.{Sized, Aligning}
use Rattle.allocator.specs.Memory.{Memory, Lawful, taken, byte_at, popped, stored}
use Rattle.allocator.specs.Answers.{Push}
use Rattle.allocator.specs.declared.fault.Cause.{Cause}
use Rattle.allocator.specs.declared.fault.Fault.TheVariants.{Size, Alignment, DoesNotFit, Address}
use Rattle.session.specs.Ledger.{Span, new_span, Among}
use Rattle.session.specs.Calls.{Call, push, pop, pop_newest, load, store, Answer, granted, done, byte, refused, Event, event}
use Rattle.session.specs.declared.fault.Fault.{Fault}
use Rattle.session.specs.declared.fault.Fault.TheVariants.{NotNewest, NotLive, Full, Outside, Allocator}

-- what a session stands for: the memory of its allocator, its live spans, the newest first, and how many grants it gave
pub record State : Type 0 where
  pub memory : Memory
  pub live : List Span
  pub given : ℕ

abbrev pub new_state : Memory → List Span → ℕ → State
new_state memory live given = record { memory = memory; live = live; given = given }

-- a session as it is opened
abbrev pub fresh : Memory → State
fresh memory = new_state memory [] 0

-- no further grant can be given
abbrev pub TooMany : State → Type 0
TooMany s = (64 ≤ length s.live) ⊎ (4294967295 ≤ s.given)

-- a grant is live where its number is
abbrev pub IsLive : State → ℕ → Type 0
IsLive s grant = (span : Span) × Among span s.live × (span.grant ≡ grant)

abbrev pub IsNewest : List Span → ℕ → Type 0
IsNewest [] grant = ⊥
IsNewest (span ∷ older) grant = span.grant ≡ grant

-- Which calls are refused, and by which fault. The last five are the allocator's refusals; that none of them is of an address, separation says.
pub data Refuses (s : State) : Call → Fault → Type 0 where
  bad_size : {size align : ℕ} → (Sized size → ⊥) → Refuses s (push size align) (Allocator Size)
  bad_align : {size align : ℕ} → Sized size → (Aligning align → ⊥) → Refuses s (push size align) (Allocator Alignment)
  full : {size align : ℕ} → Sized size → Aligning align → TooMany s → Refuses s (push size align) Full
  pop_not_live : {grant : ℕ} → (IsLive s grant → ⊥) → Refuses s (pop grant) NotLive
  pop_not_newest : {grant : ℕ} → IsLive s grant → (IsNewest s.live grant → ⊥) → Refuses s (pop grant) NotNewest
  nothing_live : s.live ≡ [] → Refuses s pop_newest NotLive
  load_not_live : {grant offset : ℕ} → (IsLive s grant → ⊥) → Refuses s (load grant offset) NotLive
  load_outside : {offset : ℕ} (span : Span) → Among span s.live → span.size ≤ offset → Refuses s (load span.grant offset) Outside
  store_not_live : {grant offset byte : ℕ} → (IsLive s grant → ⊥) → Refuses s (store grant offset byte) NotLive
  store_outside : {offset byte : ℕ} (span : Span) → Among span s.live → span.size ≤ offset → Refuses s (store span.grant offset byte) Outside
  does_not_fit : {size align : ℕ} → Sized size → Aligning align → (TooMany s → ⊥) →
      (cause : Cause) → Push s.memory size align (Err (DoesNotFit cause)) s.memory → Refuses s (push size align) (Allocator (DoesNotFit cause))
  pop_untaken : (span : Span) (older : List Span) → s.live ≡ span ∷ older →
      taken s.memory span.at ≡ false → Refuses s (pop span.grant) (Allocator Address)
  pop_newest_untaken : (span : Span) (older : List Span) → s.live ≡ span ∷ older →
      taken s.memory span.at ≡ false → Refuses s pop_newest (Allocator Address)
  load_untaken : {offset : ℕ} (span : Span) → Among span s.live → offset < span.size →
      taken s.memory (span.at + offset) ≡ false → Refuses s (load span.grant offset) (Allocator Address)
  store_untaken : {offset byte : ℕ} (span : Span) → Among span s.live → offset < span.size →
      taken s.memory (span.at + offset) ≡ false → Refuses s (store span.grant offset byte) (Allocator Address)

-- A refusal leaves the state as it was. The memory changes by the rules of the allocator and by nothing else.
pub data Step (s : State) : Call → Answer → State → Type 0 where
  refuses : {call : Call} {fault : Fault} → Refuses s call fault → Step s call (refused fault) s
  serves : {size align at : ℕ} {after : Memory} → Sized size → Aligning align → (TooMany s → ⊥) →
      Push s.memory size align (Ok at) after →
      Step s (push size align) (granted (suc s.given) at) (new_state after (new_span (suc s.given) at size align ∷ s.live) (suc s.given))
  pops : (span : Span) (older : List Span) → s.live ≡ span ∷ older → taken s.memory span.at ≡ true →
      Step s (pop span.grant) done (new_state (popped s.memory span.at) older s.given)
  pops_newest : (span : Span) (older : List Span) → s.live ≡ span ∷ older → taken s.memory span.at ≡ true →
      Step s pop_newest done (new_state (popped s.memory span.at) older s.given)
  loads : (span : Span) (offset : ℕ) → Among span s.live → offset < span.size → taken s.memory (span.at + offset) ≡ true →
      Step s (load span.grant offset) (byte (byte_at s.memory (span.at + offset))) s
  stores : (span : Span) (offset value : ℕ) → Among span s.live → offset < span.size → taken s.memory (span.at + offset) ≡ true →
      Step s (store span.grant offset value) done (new_state (stored s.memory (span.at + offset) value) s.live s.given)

-- From a session that was opened on `start`, these calls with these answers, the newest first, led to that state; the blocks were lawful at each moment.
pub data Trace (start : Memory) : List Event → State → Type 0 where
  started : Lawful start → Trace start [] (fresh start)
  stepped : {earlier : List Event} {s s' : State} {call : Call} {answer : Answer} →
      Trace start earlier s → Step s call answer s' → Lawful s'.memory → Trace start (event call answer ∷ earlier) s'
