use Rattle.std.proofs.Common.{refl}
use Rattle.std.proofs.lemmas.Result.{err_from_is_err_and}
use Rattle.session.proofs.Steps.{load-unaddressed, load-done, load-faulted}
use Rattle.session.proofs.session.Session.load.Goals as goal

pub returns-in_err-at : goal.returns-in_err-at
returns-in_err-at g c =
    let p = err_from_is_err_and c.from_residual.result c.from_residual.ensures.1 in
    rw (p.1, p.2) (record {
      step = load-unaddressed _ c.args.grant.now.number c.args.offset c.in_err-at.field-0.0 c.in_err-at.ensures;
      own = refl;
    })

pub returns-in_err-load : goal.returns-in_err-load
returns-in_err-load g c =
    let p = err_from_is_err_and c.from_residual-in_err-load.result c.from_residual-in_err-load.ensures.1 in
    let lawful = g.A.Allocator.lawful c.args.self.now.inner in
    rw (p.1, p.2) (record { step = load-faulted _ lawful c.in_ok-at.ensures c.in_err-load.ensures; own = refl })

pub returns : goal.returns
returns g c =
    let lawful = g.A.Allocator.lawful c.args.self.now.inner in
    record { step = load-done _ lawful c.in_ok-at.ensures c.in_ok-load.ensures; own = refl }
