-- What a fixed buffer stands for: one block, of its first 2^47 bytes at most, at an address that is taken modulo 2^47.
use Rattle.std.specs.Prelude.{◌≡◌, ℕ, ◌-◌, ◌%◌, ◌<◌, min, true, cond, List, [], ◌∷◌, length, take, Result, MatchResult, slice_set, refl}
use Rattle.std.proofs.Common.{mod-lt, arith, length-take}
use Rattle.allocator.specs.Memory.{Memory, Lawful, taken, fits}
use Rattle.allocator.specs.declared.fault.Fault.{Fault}
use Rattle.allocator.specs.declared.fault.Fault.TheVariants.{DoesNotFit}
use Rattle.allocator.specs.declared.fault.Cause.TheVariants.{FixedBuffer}

-- the address of its first byte
abbrev pub based : ℕ → ℕ
based base = base % 140737488355328

-- how many of its bytes are usable
abbrev pub room : List ℕ → ℕ
room bytes = min (length bytes) 140737488355328

abbrev pub fixed : ℕ → ℕ → List ℕ → Memory
fixed base used bytes = record { base = based base; mark = min used (room bytes); bytes = take 140737488355328 bytes } ∷ []

-- it has no further block, and says so
abbrev pub Alone : Memory → ℕ → ℕ → Result ℕ Fault → Type 0
Alone m size align r = MatchResult r (λ at. fits m size align ≡ true) (λ fault. fault ≡ DoesNotFit FixedBuffer)

-- the whole buffer after a store
abbrev pub stored_in : ℕ → ℕ → List ℕ → ℕ → ℕ → List ℕ
stored_in base used bytes at byte = cond (taken (fixed base used bytes) at) (slice_set bytes (at - based base) byte) bytes

pub fixed-lawful : (base used : ℕ) (bytes : List ℕ) → Lawful (fixed base used bytes)
fixed-lawful base used bytes =
    let n = length-take 140737488355328 bytes in
    let some : 0 < 140737488355328 = omega arith in
    let low : base % 140737488355328 < 140737488355328 = mod-lt base some in
    (omega arith, omega arith, λ at i. refl, tt, tt)
