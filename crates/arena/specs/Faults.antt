-- The number of each refusal of an opening, what is printed of it, and what a source's refusal is to it.
use Rattle.std.specs.Prelude.{ℕ, List, ◌++◌, codes, decimal}
use Rattle.source.specs.declared.fault.SourceFault.{SourceFault}
use Rattle.source.specs.declared.fault.SourceFault.TheVariants as source
use Rattle.arena.specs.declared.fault.ArenaFault.{ArenaFault}
use Rattle.arena.specs.declared.fault.ArenaFault.TheVariants.{AlreadyOpened, Capacity, NoBlock}

abbrev pub refusal : ArenaFault → ℕ
refusal AlreadyOpened = 9
refusal Capacity = 10
refusal NoBlock = 12

abbrev pub refusal_text : ArenaFault → List ℕ
refusal_text fault = codes "refused " ++ decimal (refusal fault)

abbrev pub fault_of : SourceFault → ArenaFault
fault_of source.BlockSize = Capacity
fault_of source.NoBlock = NoBlock
fault_of source.Address = NoBlock
