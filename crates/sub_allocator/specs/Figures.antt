-- Worked figures, for any buffer of the length.
use Rattle.std.specs.Prelude.{◌≡◌, ℕ, ◌≤◌, List, length, Ok, Err, Result}
use Rattle.allocator.specs.Layouts.{Sized, Aligning}
use Rattle.allocator.specs.Memory.{Memory}
use Rattle.allocator.specs.Answers.{Push, Pop}
use Rattle.sub_allocator.specs.Buffers.{fixed, Alone}
use Rattle.allocator.specs.declared.fault.Fault.{Fault}
use Rattle.allocator.specs.declared.fault.Fault.TheVariants.{DoesNotFit}
use Rattle.allocator.specs.declared.fault.Cause.TheVariants.{FixedBuffer}

-- eight bytes at alignment 8 at address 1 want 15 bytes: seven of them are padding
abbrev pub AtOne : ℕ → Result ℕ Fault → Type 0
AtOne many answer = (bytes : List ℕ) (r : Result ℕ Fault) (m' : Memory) → length bytes ≡ many → Push (fixed 1 0 bytes) 8 8 r m' → Alone (fixed 1 0 bytes) 8 8 r → r ≡ answer

-- the pop of an aligned span leaves the padding before it taken
abbrev pub LandsAtEight : Type 0
LandsAtEight =
    (bytes : List ℕ) (r₁ r₂ r₄ : Result ℕ Fault) (r₃ : Result (Unit {0}) Fault) (m₁ m₂ m₃ m₄ : Memory) → 16 ≤ length bytes →
    Push (fixed 0 0 bytes) 1 1 r₁ m₁ → Push m₁ 8 8 r₂ m₂ → Pop m₂ 8 r₃ m₃ → Push m₃ 1 1 r₄ m₄ →
    (r₁ ≡ Ok 0) × (r₂ ≡ Ok 8) × (r₃ ≡ Ok tt) × (r₄ ≡ Ok 8)

pub record BufferFigures : Type 0 where
  pub served : AtOne 15 (Ok 8)
  pub short : AtOne 14 (Err (DoesNotFit FixedBuffer))
  pub lands : LandsAtEight
  pub largest : Sized 16777216 × Aligning 4096
  pub larger : Sized 16777217 → ⊥
  pub coarser : Aligning 8192 → ⊥
  pub odd : Aligning 3 → ⊥
