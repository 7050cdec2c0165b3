use Rattle.std.proofs.Common.{arith}
use Rattle.session.proofs.Statistics.{statistics_law}
use Rattle.session.proofs.session.calls.Session+AllocationTracker+T.track.Goals as goal

pub returns-clause-statistics : goal.returns-clause-statistics
returns-clause-statistics g c = statistics_law g.T.Allocator c.open.result _ c.open.ensures.fresh (grind arith)
