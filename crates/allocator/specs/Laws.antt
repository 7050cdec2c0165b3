-- What the documentation of an allocator asks of any: a push answers unaliased memory which fits the layout, and what was pushed last is popped first.
use Rattle.std.specs.Prelude.{◌≡◌, ℕ, ◌+◌, ◌<◌, ◌≤◌, true, false, [], ◌∷◌, Ok, Result, MatchResult}
use Rattle.allocator.specs.Layouts.{Aligned}
use Rattle.allocator.specs.Memory.{Memory, Lawful, top, within, taken, byte_at, fits, placed}
use Rattle.allocator.specs.Answers.{Push}
use Rattle.allocator.specs.declared.fault.Fault.{Fault}

-- the span lies in the newest block and is the last of its taken bytes
abbrev pub Last : Memory → ℕ → ℕ → Type 0
Last [] at size = ⊥
Last (b ∷ older) at size = (b.base ≤ at) × (at + size ≡ top b)

-- the span is aligned, as long as was asked, and shares no byte with what was taken before; that all stays taken, and no byte changes
pub record Fresh (m : Memory) (size align at : ℕ) (m' : Memory) : Type 0 where
  pub aligned : Aligned at align
  pub last : Last m' at size
  pub unaliased : (x : ℕ) → at ≤ x → x < at + size → taken m x ≡ false
  pub kept : (x : ℕ) → taken m x ≡ true → taken m' x ≡ true
  pub same : (x : ℕ) → within m x ≡ true → byte_at m' x ≡ byte_at m x

-- a refused push leaves all as it was
abbrev pub Served : Memory → ℕ → ℕ → Result ℕ Fault → Memory → Type 0
Served m size align r m' = MatchResult r (λ at. Fresh m size align at m') (λ fault. m' ≡ m)

-- After a push to m had led to m', its pop leads to m'': the pop is accepted and gives back that span alone, no byte changes, and the same push is
-- served by the same span again.
pub record Undone (m : Memory) (size align at : ℕ) (m' : Memory) (r : Result (Unit {0}) Fault) (m'' : Memory) : Type 0 where
  pub accepted : r ≡ Ok tt
  pub kept : (x : ℕ) → taken m x ≡ true → taken m'' x ≡ true
  pub free : (x : ℕ) → at ≤ x → x < at + size → taken m'' x ≡ false
  pub same : (x : ℕ) → byte_at m'' x ≡ byte_at m' x
  pub room : fits m'' size align ≡ true
  pub again : placed m'' align ≡ at

abbrev pub Undoes : ℕ → Memory → Result (Unit {0}) Fault → Memory → Type 0
Undoes at m' r m'' = (m : Memory) (size align : ℕ) → Lawful m → 0 < size → 0 < align → Push m size align (Ok at) m' → Undone m size align at m' r m''
