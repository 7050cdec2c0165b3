use Rattle.std.proofs.Common.{arith}
use Rattle.allocator.proofs.Powers.{divides-from-aligning, aligning-some}
use Rattle.allocator.proofs.layout.Layout.from_size_align.Goals as goal

pub returns-then-align-eq0 : goal.returns-then-align-eq0
returns-then-align-eq0 c = (
  omega arith,
  λ aligning.
      let divides = divides-from-aligning c.args.align aligning in
      let some = aligning-some c.args.align aligning in
      let high = aligning.1 in
      grind arith,
)
