-- How the blocks of an arena grow through all its uses, and which allocators grow as an arena does.
use Rattle.std.specs.Prelude.{◌≡◌, ℕ, suc, ◌+◌, ◌-◌, ◌*◌, ◌^◌, ◌<◌, ◌≤◌, max, List, [], ◌∷◌, length, Result}
use Rattle.allocator.specs.Memory.{Block, Memory, Lawful, marked}
use Rattle.allocator.specs.declared.Allocator.{Ghosts}
use Rattle.allocator.specs.declared.fault.Fault.{Fault}
use Rattle.session.specs.Ledger.{need}
use Rattle.session.specs.Calls.{Call, push, Answer, Event, event, ledger_of}
use Rattle.session.specs.Steps.{State, fresh, Step}
use Rattle.session.specs.Sessions.{state}
use Rattle.session.specs.Runs.{Run}
use Rattle.session.specs.declared.session.Session.{Session}

-- the size of a block, with the sixteen bytes in front of the usable ones
abbrev pub block_size : Block → ℕ
block_size b = length b.bytes + 16

abbrev pub newest_size : Memory → ℕ
newest_size [] = 0
newest_size (b ∷ older) = block_size b

-- the sizes of the blocks held, in total
abbrev pub held : Memory → ℕ
held [] = 0
held (b ∷ older) = block_size b + held older

-- what a use begins with: the newest block alone, with nothing taken
abbrev pub acquired : Memory → Memory
acquired [] = []
acquired (b ∷ older) = marked b 0 ∷ []

-- the least power of two from a number on
pub record LeastPower (from power : ℕ) : Type 0 where
  pub exponent : ℕ
  pub is : power ≡ 2 ^ exponent
  pub enough : from ≤ power
  pub least : (other : ℕ) → from ≤ 2 ^ other → power ≤ 2 ^ other

-- the size of a block that an arena takes for a push: twice the newest's, or the least power of two that serves the push where that is more
pub record GrownSize (newest size align grown : ℕ) : Type 0 where
  pub power : ℕ
  pub large : LeastPower (16 + size + align) power
  pub is : grown ≡ max (2 * newest) power

-- An arena that was opened with a block of the size `first` is, after some uses, in one that began on `start`, had these calls and came to this
-- state. It grew so many times over its life, and `most` is the largest need of its uses so far.
pub data Life (first : ℕ) : (start : Memory) → List Event → State → (growths most : ℕ) → Type 0 where
  begins : (b : Block) → block_size b ≡ first → Lawful (b ∷ []) → Life first (acquired (b ∷ [])) [] (fresh (acquired (b ∷ []))) 0 0
  visits : {start : Memory} {earlier : List Event} {s s' : State} {growths most : ℕ} {call : Call} {answer : Answer} →
      Life first start earlier s growths most → Step s call answer s' → Lawful s'.memory →
      length s'.memory ≡ length s.memory →
      Life first start (event call answer ∷ earlier) s' growths
      (max most (need (ledger_of (event call answer ∷ earlier))))
  grows : {start : Memory} {earlier : List Event} {s s' : State} {growths most : ℕ} {size align : ℕ} {answer : Answer} →
      Life first start earlier s growths most → Step s (push size align) answer s' → Lawful s'.memory →
      length s.memory < length s'.memory → GrownSize (newest_size s.memory) size align (newest_size s'.memory) →
      Life first start (event (push size align) answer ∷ earlier) s' (suc growths)
      (max most (need (ledger_of (event (push size align) answer ∷ earlier))))
  again : {start : Memory} {events : List Event} {s : State} {growths most : ℕ} →
      Life first start events s growths most → Life first (acquired s.memory) [] (fresh (acquired s.memory)) growths most

-- Growth: how the blocks are bounded after so many growths, with that largest need.
pub record Growth (first growths most : ℕ) (m : Memory) : Type 0 where
  pub ungrown : growths ≡ 0 → held m ≡ first
  -- with each growth before the last, the first size doubled, and it is still below the need
  pub rarely : 0 < growths → first * 2 ^ (growths - 1) < most + 16
  pub tightly : 0 < growths → held m < 4 * (most + 16)

-- a push took a further block of the size that an arena takes, and counted it, or took none
abbrev pub Grew : Memory → ℕ → ℕ → ℕ → Memory → ℕ → Type 0
Grew m growths size align m' growths' =
    (length m < length m' → GrownSize (newest_size m) size align (newest_size m') × (growths' ≡ suc growths))
    × (length m' ≡ length m → growths' ≡ growths)

-- an allocator whose own rules say that it grows as an arena does, and counts its growths
pub record GrowsAsArena {A : Type 0} (allocator : Ghosts A) (growths : A → ℕ) : Type 0 where
  pub pushes : (a a' : A) (size align : ℕ) (r : Result ℕ Fault) → allocator.pushes a size align r a' →
      Grew (allocator.blocks a) (growths a) size align (allocator.blocks a') (growths a')
  pub pops : (a a' : A) (at size : ℕ) (r : Result (Unit {0}) Fault) → allocator.pops a at size r a' → growths a' ≡ growths a
  pub stores : (a a' : A) (at byte : ℕ) (r : Result (Unit {0}) Fault) → allocator.stores a at byte r a' → growths a' ≡ growths a

-- the largest need of these calls, and of what was before them
abbrev pub largest_need : ℕ → List Event → ℕ
largest_need before [] = before
largest_need before (last ∷ earlier) = max (largest_need before earlier) (need (ledger_of (last ∷ earlier)))

-- Of every run from the session over such an allocator: it goes on with the arena's life, and the blocks stay bounded.
abbrev pub GrowthLaw : {A : Type 0} → Ghosts A → Session A → Type 0
GrowthLaw {A} allocator first = (growths : A → ℕ) → GrowsAsArena allocator growths →
    (size before : ℕ) → Life size (state allocator first).memory [] (state allocator first) (growths first.inner) before →
    (events : List Event) (s : Session A) → Run allocator first events s →
    Life size (state allocator first).memory events (state allocator s) (growths s.inner) (largest_need before events)
    × Growth size (growths s.inner) (largest_need before events) (state allocator s).memory
