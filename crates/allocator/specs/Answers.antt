-- What each call of an allocator answers, and the memory after it.
use Rattle.std.specs.Prelude.{◌≡◌, ℕ, ◌+◌, true, false, cond, ◌∷◌, Ok, Err, Result}
use Rattle.allocator.specs.Layouts.{pad}
use Rattle.allocator.specs.Memory.{Block, Memory, top, fits, placed, pushed, full, taken, byte_at, popped, stored}
use Rattle.allocator.specs.declared.fault.Cause.{Cause}
use Rattle.allocator.specs.declared.fault.Fault.{Fault}
use Rattle.allocator.specs.declared.fault.Fault.TheVariants.{DoesNotFit, Address}

-- A push is served from the newest block wherever it has room. Else the allocator chooses: a further block,
-- whose taken bytes end with the span at its first aligned address; or a refusal, with a cause.
pub data Push (m : Memory) (size align : ℕ) (r : Result ℕ Fault) (m' : Memory) : Type 0 where
  fitted : fits m size align ≡ true → r ≡ Ok (placed m align) → m' ≡ pushed m size align → Push m size align r m'
  further : fits m size align ≡ false → (block : Block) → r ≡ Ok (block.base + pad block.base align) → top block ≡ block.base + pad block.base align + size → m' ≡ block ∷ full m → Push m size align r m'
  refused : fits m size align ≡ false → (cause : Cause) → r ≡ Err (DoesNotFit cause) → m' ≡ m → Push m size align r m'

-- the other calls name an address, and are refused unless its byte is taken
abbrev pub asked : {X : Type 0} → Memory → ℕ → X → Result X Fault
asked m at x = cond (taken m at) (Ok x) (Err Address)

pub record Pop (m : Memory) (at : ℕ) (r : Result (Unit {0}) Fault) (m' : Memory) : Type 0 where
  pub answer : r ≡ asked m at tt
  pub after : m' ≡ popped m at

abbrev pub Load : Memory → ℕ → Result ℕ Fault → Type 0
Load m at r = r ≡ asked m at (byte_at m at)

pub record Store (m : Memory) (at byte : ℕ) (r : Result (Unit {0}) Fault) (m' : Memory) : Type 0 where
  pub answer : r ≡ asked m at tt
  pub after : m' ≡ cond (taken m at) (stored m at byte) m
