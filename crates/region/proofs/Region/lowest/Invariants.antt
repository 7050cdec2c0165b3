use Rattle.std.proofs.Common.{ℕ, ◌<◌, length}
use Rattle.region.specs.Places.{chain, Serves}
use Rattle.region.specs.Regions.{usable}
use Rattle.region.proofs.Region.lowest.Given as goal

-- no lower place serves
abbrev pub invariant-loop-k : goal.invariant-loop-k
invariant-loop-k l = (j : ℕ) → j < l.k → Serves (usable (length l.self.bytes.items)) (chain l.self.slots.items) l.size j → ⊥
