-- The number of each refusal of a source, and what it is to an allocator above it.
use Rattle.std.specs.Prelude.{ℕ}
use Rattle.allocator.specs.declared.fault.Cause.TheVariants as cause
use Rattle.allocator.specs.declared.fault.Fault.{Fault}
use Rattle.allocator.specs.declared.fault.Fault.TheVariants as allocator
use Rattle.source.specs.declared.fault.SourceFault.{SourceFault}
use Rattle.source.specs.declared.fault.SourceFault.TheVariants.{BlockSize, NoBlock, Address}

abbrev pub refusal : SourceFault → ℕ
refusal BlockSize = 10
refusal NoBlock = 12
refusal Address = 13

abbrev pub fault_of : SourceFault → Fault
fault_of BlockSize = allocator.DoesNotFit cause.BlockLimit
fault_of NoBlock = allocator.DoesNotFit cause.NoBlock
fault_of Address = allocator.Address
