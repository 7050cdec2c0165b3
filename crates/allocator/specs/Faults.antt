-- The number of each refusal, and when a layout is refused.
use Rattle.std.specs.Prelude.{ℕ}
use Rattle.allocator.specs.Layouts.{Sized, Aligning}
use Rattle.allocator.specs.declared.fault.Fault.{Fault}
use Rattle.allocator.specs.declared.fault.Fault.TheVariants.{Size, Alignment, DoesNotFit, Address}

abbrev pub refusal : Fault → ℕ
refusal Size = 1
refusal Alignment = 2
refusal (DoesNotFit cause) = 3
refusal Address = 13

-- a layout is refused for its size, and for its alignment only where the size is right
abbrev pub NoLayout : ℕ → ℕ → Fault → Type 0
NoLayout size align Size = Sized size → ⊥
NoLayout size align Alignment = Sized size × (Aligning align → ⊥)
NoLayout size align (DoesNotFit cause) = ⊥
NoLayout size align Address = ⊥
