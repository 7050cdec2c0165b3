use Rattle.std.proofs.Common.{arith}
use Rattle.session.proofs.Laws.{session_law}
use Rattle.session.proofs.Jobs.{job_law}
use Rattle.session.proofs.Uses.{growth_law}
use Rattle.session.proofs.session.Session.open.Goals as goal

pub returns-clause-law : goal.returns-clause-law
returns-clause-law g c = session_law g.A.Allocator _ (g.A.Allocator.blocks c.args.inner) (grind arith)

pub returns-clause-jobs : goal.returns-clause-jobs
returns-clause-jobs g c = job_law g.A.Allocator _ (g.A.Allocator.blocks c.args.inner) (grind arith)

pub returns-clause-growth : goal.returns-clause-growth
returns-clause-growth g c = growth_law g.A.Allocator _
