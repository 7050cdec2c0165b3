-- The statistics of a tracker. No number passes 2^64 − 1 or falls below 0: it stays there.
use Rattle.std.specs.Prelude.{ℕ, ◌+◌, ◌-◌, ◌*◌, ◌^◌, min, max, Ok, Err, Result}
use Rattle.allocator.specs.declared.fault.Fault.{Fault}
use Rattle.allocator.specs.declared.AllocationStats.{AllocationStats}

abbrev pub capped : ℕ → ℕ
capped n = min n (2 ^ 64 - 1)

abbrev pub unused : AllocationStats
unused = record { bytes_allocated = 0; allocations = 0; max_bytes_allocated = 0; max_allocations = 0; max_alignment = 1 }

-- with one push more, and the highest numbers so far
abbrev pub counted : AllocationStats → ℕ → ℕ → AllocationStats
counted s size align =
    record {
      bytes_allocated = capped (s.bytes_allocated + size);
      allocations = capped (s.allocations + 1);
      max_bytes_allocated = max (capped (s.bytes_allocated + size)) s.max_bytes_allocated;
      max_allocations = max (capped (s.allocations + 1)) s.max_allocations;
      max_alignment = max s.max_alignment align;
    }

-- with one push less
abbrev pub discounted : AllocationStats → ℕ → AllocationStats
discounted s size =
    record {
      bytes_allocated = s.bytes_allocated - size;
      allocations = s.allocations - 1;
      max_bytes_allocated = s.max_bytes_allocated;
      max_allocations = s.max_allocations;
      max_alignment = s.max_alignment;
    }

-- only accepted calls count
abbrev pub after_push : AllocationStats → ℕ → ℕ → Result ℕ Fault → AllocationStats
after_push s size align (Ok at) = counted s size align
after_push s size align (Err fault) = s

abbrev pub after_pop : AllocationStats → ℕ → Result (Unit {0}) Fault → AllocationStats
after_pop s size (Ok done) = discounted s size
after_pop s size (Err fault) = s

-- the padding that the pushes could have wanted at most
abbrev pub max_error : AllocationStats → ℕ
max_error s = capped (s.max_allocations * (s.max_alignment - 1))

-- the capacity of an arena that serves the same pushes from one block
abbrev pub min_capacity : AllocationStats → ℕ
min_capacity s = capped (s.max_bytes_allocated + s.max_allocations * (s.max_alignment - 1))
