use Rattle.std.proofs.Common.{refl}
use Rattle.allocator.proofs.Powers.{aligning-from-divides}
use Rattle.allocator.proofs.layout.Layout.align.Goals as goal

pub returns : goal.returns
returns c = record { value = refl; aligning = aligning-from-divides c.args.self.now.align c.args.self.now.divides }
