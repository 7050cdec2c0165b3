use Rattle.figures.proofs.Worked.{worked}
use Rattle.figures.proofs.figures.Goals as goal

pub returns : goal.returns
returns c = record { buffer = c.buffer_figures.ensures; arena = worked }
