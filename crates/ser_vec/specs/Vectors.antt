-- What each call of a vector answers, which calls its session performed for it, and the vector's list of elements after it.
use Rattle.std.specs.Prelude.{◌≡◌, ℕ, ◌+◌, ◌-◌, ◌*◌, ◌<◌, ◌≤◌, List, [], ◌∷◌, ◌++◌, map, length, Some, None, Ok, Err, Option, Result, ◌≢◌, is_some, nat_lt, slice_index_or, slice_set, refl}
use Rattle.std.proofs.Common.{sym, lit≤}
use Rattle.std.proofs.lemmas.Bool.{lt-ltb}
use Rattle.std.specs.List.{range_with_len}
use Rattle.allocator.specs.declared.Allocator.{Ghosts}
use Rattle.allocator.specs.declared.fault.Fault.TheVariants.{Size, Address}
use Rattle.kind.specs.declared.Kind as kinds
use Rattle.session.specs.Ledger.{Span}
use Rattle.session.specs.Records.{Held, Unique}
use Rattle.session.specs.Calls.{Event, event, push, pop, granted, done, refused}
use Rattle.session.specs.Steps.{State}
use Rattle.session.specs.Sessions.{state}
use Rattle.session.specs.Runs.{Run}
use Rattle.session.specs.declared.fault.Fault as session
use Rattle.session.specs.declared.fault.Fault.TheVariants.{NotLive, Outside, Allocator}
use Rattle.session.specs.declared.grant.Grant.{Grant}
use Rattle.session.specs.declared.session.Session.{Session}
use Rattle.ser_vec.specs.Elements.{bytes_at, element_at, packings, stores_of, stores_cut, loads_of, loads_cut}
use Rattle.ser_vec.specs.declared.fault.Fault.{Fault}
use Rattle.ser_vec.specs.declared.fault.Fault.TheVariants.{Full, Session as Nested}
use Rattle.ser_vec.specs.declared.header.Header.{Header}

-- a vector stands for what its header says
pub record Vector : Type 0 where
  pub grant : Option Grant
  pub at : ℕ
  pub capacity : ℕ
  pub len : ℕ

abbrev pub new_vector : Option Grant → ℕ → ℕ → ℕ → Vector
new_vector grant at capacity len = record { grant = grant; at = at; capacity = capacity; len = len }

abbrev pub plain : Option Header → Vector
plain None = new_vector None 0 0 0
plain (Some h) = new_vector (Some h.grant) h.at h.cap h.len

-- What the type says of each vector: its length is at most its capacity, the capacity is at most 16777216, and a grant is there exactly with capacity.
pub bounds : (h : Option Header) → ((plain h).len ≤ (plain h).capacity) × ((plain h).capacity ≤ 16777216) × (is_some (plain h).grant ≡ nat_lt 0 (plain h).capacity)
bounds None = (lit≤ tt, lit≤ tt, refl)
bounds (Some h) = (h.fits, h.small, sym (lt-ltb 0 h.cap h.some))

-- a vector is formed if a header says it, and then its length is at most its capacity
pub record Formed (v : Vector) : Type 0 where
  pub header : Option Header
  pub is : plain header ≡ v

abbrev pub resized : Vector → ℕ → Vector
resized v len = new_vector v.grant v.at v.capacity len

abbrev pub number_of : Option Grant → ℕ
number_of None = 0
number_of (Some grant) = grant.number

-- the live spans have one with the vector's grant, address and size; without capacity there is none to have
abbrev pub Placed : List Span → ℕ → ℕ → Option Grant → Type 0
Placed live at size None = Unit {0}
Placed live at size (Some grant) = Held live grant.number at size

-- a vector of elements so wide has its span live in the session
abbrev pub Lives : ℕ → Vector → State → Type 0
Lives wide v s = Placed s.live v.at (v.capacity * wide) v.grant

-- what the test of a vector's span tells
abbrev pub Tested : ℕ → Vector → State → Result (Unit {0}) Fault → Type 0
Tested wide v s (Ok u) = Lives wide v s × Formed v
Tested wide v s (Err fault) = (fault ≡ Nested NotLive) × (Unique s.live → Lives wide v s → ⊥) × Formed v

-- the vector's elements, as they lie in the session's memory
abbrev pub elements : {K : Type 0} → kinds.Ghosts K → Vector → State → List K
elements kind v s = map (element_at kind s.memory v.at) (range_with_len 0 v.len)

-- what a call on a vector in a session may do: its answer, the session's calls for it, and both after it
abbrev pub Rule : Type 0 → Type 1
Rule X = Vector → State → Result X Fault → List Event → Vector → State → Type 0

-- A call is refused unless the vector's span is live, and then changes nothing.
pub data Guarded {X : Type 0} (wide : ℕ) (Does : Rule X) (v : Vector) (s : State) : Result X Fault → List Event → Vector → State → Type 0 where
  not_live : (Lives wide v s → ⊥) → Guarded wide Does v s (Err (Nested NotLive)) [] v s
  live : {r : Result X Fault} {events : List Event} {v' : Vector} {s' : State} → Lives wide v s → Does v s r events v' s' → Guarded wide Does v s r events v' s'

-- Elements are appended, or do not fit in the capacity that is left.
pub data Extending {K : Type 0} (kind : kinds.Ghosts K) (xs : List K) (v : Vector) (s : State) : Result (Unit {0}) Fault → List Event → Vector → State → Type 0 where
  full : v.capacity - v.len < length xs → Extending kind xs v s (Err Full) [] v s
  extended : {s' : State} → length xs ≤ v.capacity - v.len →
      elements kind (resized v (v.len + length xs)) s' ≡ elements kind v s ++ xs →
      Extending kind xs v s (Ok tt) (stores_of (number_of v.grant) (v.len * kind.wide) (packings kind xs) (length xs * kind.wide)) (resized v (v.len + length xs)) s'
  -- none, to a vector without capacity
  nothing : v.capacity ≡ 0 → xs ≡ [] → Extending kind xs v s (Ok tt) [] v s
  extend_cut : {s' : State} (n : ℕ) → length xs ≤ v.capacity - v.len → n < length xs * kind.wide → elements kind v s' ≡ elements kind v s →
      Extending kind xs v s (Err (Nested (Allocator Address))) (stores_cut (number_of v.grant) (v.len * kind.wide) (packings kind xs) n) v s'

-- The element at an index is replaced.
pub data Setting {K : Type 0} (kind : kinds.Ghosts K) (i : ℕ) (x : K) (v : Vector) (s : State) : Result (Unit {0}) Fault → List Event → Vector → State → Type 0 where
  beyond : v.len ≤ i → Setting kind i x v s (Err (Nested Outside)) [] v s
  replaced : {s' : State} → i < v.len → elements kind v s' ≡ slice_set (elements kind v s) i x →
      Setting kind i x v s (Ok tt) (stores_of (number_of v.grant) (i * kind.wide) (packings kind (x ∷ [])) (1 * kind.wide)) v s'
  set_cut : {s' : State} (n : ℕ) → i < v.len → n < 1 * kind.wide →
      ((k : ℕ) → k < v.len → (k ≢ i) → element_at kind s'.memory v.at k ≡ element_at kind s.memory v.at k) →
      Setting kind i x v s (Err (Nested (Allocator Address))) (stores_cut (number_of v.grant) (i * kind.wide) (packings kind (x ∷ [])) n) v s'

-- The element at an index is answered, or none past the end.
pub data Getting {K : Type 0} (kind : kinds.Ghosts K) (i : ℕ) (v : Vector) (s : State) : Result (Option K) Fault → List Event → Vector → State → Type 0 where
  absent : v.len ≤ i → Getting kind i v s (Ok None) [] v s
  got : (x : K) → i < v.len → x ≡ slice_index_or (elements kind v s) i x →
      Getting kind i v s (Ok (Some x)) (loads_of (number_of v.grant) (i * kind.wide) (bytes_at s.memory (v.at + i * kind.wide) kind.wide) kind.wide) v s
  get_cut : (n : ℕ) → i < v.len → n < kind.wide →
      Getting kind i v s (Err (Nested (Allocator Address))) (loads_cut (number_of v.grant) (i * kind.wide) (bytes_at s.memory (v.at + i * kind.wide) kind.wide) n) v s

-- The last element is taken off and answered, or none if there is none.
pub data Popping {K : Type 0} (kind : kinds.Ghosts K) (v : Vector) (s : State) : Result (Option K) Fault → List Event → Vector → State → Type 0 where
  none : v.len ≡ 0 → Popping kind v s (Ok None) [] v s
  popped : (x : K) → 0 < v.len → elements kind v s ≡ elements kind (resized v (v.len - 1)) s ++ x ∷ [] →
      Popping kind v s (Ok (Some x)) (loads_of (number_of v.grant) ((v.len - 1) * kind.wide) (bytes_at s.memory (v.at + (v.len - 1) * kind.wide) kind.wide) kind.wide) (resized v (v.len - 1)) s
  pop_cut : (n : ℕ) → 0 < v.len → n < kind.wide →
      Popping kind v s (Err (Nested (Allocator Address))) (loads_cut (number_of v.grant) ((v.len - 1) * kind.wide) (bytes_at s.memory (v.at + (v.len - 1) * kind.wide) kind.wide) n) v s

-- There is room for so many more elements, or not.
pub data Reserving (additional : ℕ) (v : Vector) (s : State) : Result (Unit {0}) Fault → List Event → Vector → State → Type 0 where
  enough : additional ≤ v.capacity - v.len → Reserving additional v s (Ok tt) [] v s
  lacking : v.capacity - v.len < additional → Reserving additional v s (Err Full) [] v s

-- A number or a truth of the vector is told.
pub data Telling {X : Type 0} (x : X) (v : Vector) (s : State) : Result X Fault → List Event → Vector → State → Type 0 where
  tells : Telling x v s (Ok x) [] v s

-- No element is left.
pub data Clearing (v : Vector) (s : State) : Result (Unit {0}) Fault → List Event → Vector → State → Type 0 where
  clears : Clearing v s (Ok tt) [] (resized v 0) s

-- The vector's span is popped, if it has one. The session says when that is refused.
pub data Closing (v : Vector) (s : State) : Result (Unit {0}) Fault → List Event → Vector → State → Type 0 where
  spanless : v.capacity ≡ 0 → Closing v s (Ok tt) [] v s
  closed : {s' : State} → 0 < v.capacity → Closing v s (Ok tt) (event (pop (number_of v.grant)) done ∷ []) v s'
  stays : {s' : State} (fault : session.Fault) → 0 < v.capacity → Closing v s (Err (Nested fault)) (event (pop (number_of v.grant)) (refused fault) ∷ []) v s'

-- A vector is opened by a push of capacity × width bytes. Without capacity there is no push, and none of more bytes than a span may have.
pub data Opening {K : Type 0} (kind : kinds.Ghosts K) (capacity : ℕ) (s : State) : Result Vector Fault → List Event → State → Type 0 where
  bare : capacity ≡ 0 → Opening kind capacity s (Ok (new_vector None 0 0 0)) [] s
  too_large : 16777216 < capacity * kind.wide → Opening kind capacity s (Err (Nested (Allocator Size))) [] s
  placed : {s' : State} (grant : Grant) (at : ℕ) → 0 < capacity → capacity * kind.wide ≤ 16777216 → Lives kind.wide (new_vector (Some grant) at capacity 0) s' →
      Opening kind capacity s (Ok (new_vector (Some grant) at capacity 0)) (event (push (capacity * kind.wide) kind.aligned) (granted grant.number at) ∷ []) s'
  unplaced : {s' : State} (fault : session.Fault) → 0 < capacity → capacity * kind.wide ≤ 16777216 →
      Opening kind capacity s (Err (Nested fault)) (event (push (capacity * kind.wide) kind.aligned) (refused fault) ∷ []) s'

-- the session went through a run of its own calls, and these are as the rule says
pub record Went {A : Type 0} (allocator : Ghosts A) (s s' : Session A) (Of : List Event → Type 0) : Type 0 where
  pub events : List Event
  pub run : Run allocator s events s'
  pub rule : Of events

-- what a call did, to a vector that is formed before and after
abbrev pub Acts : {A X : Type 0} → Ghosts A → ℕ → Rule X → Vector → Session A → Result X Fault → Vector → Session A → Type 0
Acts allocator wide Does v s r v' s' = Went allocator s s' (λ events. Formed v × Formed v' × Guarded wide Does v (state allocator s) r events v' (state allocator s'))

abbrev pub Opens : {A K : Type 0} → Ghosts A → kinds.Ghosts K → ℕ → Session A → Result Vector Fault → Session A → Type 0
Opens allocator kind capacity s r s' = Went allocator s s' (λ events. Opening kind capacity (state allocator s) r events (state allocator s'))

-- the answer of a closing, without the vector that a refusal hands back
abbrev pub ended : {V : Type 0} → Result (Unit {0}) (V × Fault) → Result (Unit {0}) Fault
ended (Ok u) = Ok u
ended (Err e) = Err e.1
