use Rattle.sub_allocator.proofs.Worked.{worked}
use Rattle.sub_allocator.proofs.figures.buffer_figures.Goals as goal

pub returns : goal.returns
returns c = worked
