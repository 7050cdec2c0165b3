use Rattle.session.proofs.Worked.{worked}
use Rattle.session.proofs.figures.session_figures.Goals as goal

pub returns : goal.returns
returns c = worked
