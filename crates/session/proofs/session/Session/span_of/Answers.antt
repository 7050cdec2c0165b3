use Rattle.std.proofs.Common.{refl, arith}
use Rattle.session.proofs.session.Session.span_of.Goals as goal

pub returns : goal.returns
returns g c = let (here, same) = c.in_ok-span.ensures in (_, here, same, refl, omega arith)
