-- What it is to open an arena over a source: which block it asks for, and what a refusal leaves.
use Rattle.std.specs.Prelude.{◌≡◌, ℕ, ◌+◌, ◌<◌, ◌≤◌, Ok, Err}
use Rattle.source.specs.Blocks.{refused}
use Rattle.source.specs.declared.BlockSource.{Ghosts}
use Rattle.source.specs.declared.fault.SourceFault.TheVariants as source
use Rattle.arena.specs.Arenas.{unopened}
use Rattle.arena.specs.Calls.{Begun}
use Rattle.arena.specs.Powers.{least_power_of}
use Rattle.arena.specs.Views.{idle_of}
use Rattle.arena.specs.declared.arena.Arena.{Arena}
use Rattle.arena.specs.declared.fault.ArenaFault.{ArenaFault}
use Rattle.arena.specs.declared.fault.ArenaFault.TheVariants.{Capacity, NoBlock}

-- the source granted one block, of the least power of two that has the capacity and the 16 bytes that are reserved
pub record Opened {S : Type 0} (from : Ghosts S) (s : S) (cap : ℕ) (a : Arena S from) : Type 0 where
  pub small : cap ≤ 16777216
  pub begun : Begun (unopened (from.state s)) (least_power_of (cap + 16)) (idle_of from.state a)
  pub chosen : from.chooses s (least_power_of (cap + 16)) (Ok begun.at) a.source

-- no block has the capacity, and the source was not asked; or it was, and refused
pub record Unopened {S : Type 0} (from : Ghosts S) (s : S) (cap : ℕ) (fault : ArenaFault) (s' : S) : Type 0 where
  pub large : 16777216 < cap → (fault ≡ Capacity) × (s' ≡ s)
  pub dry : cap ≤ 16777216 → (fault ≡ NoBlock) × (from.state s' ≡ refused (from.state s) (least_power_of (cap + 16))) × from.chooses s (least_power_of (cap + 16)) (Err source.NoBlock) s'
