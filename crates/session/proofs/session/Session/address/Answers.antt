use Rattle.std.proofs.Common.{arith}
use Rattle.session.proofs.session.Session.address.Goals as goal

pub returns-then-offset-size : goal.returns-then-offset-size
returns-then-offset-size g c =
    let found = rw c.in_ok-span.ensures.ok_part at c.find.ensures in
    (_, found.0, found.1, omega arith)

pub returns : goal.returns
returns g c =
    let found = rw c.in_ok-span.ensures.ok_part at c.find.ensures in
    record { span = _; among = found.0; named = found.1; inside = omega arith; is = c.saturating_add.ensures }
