use Rattle.std.proofs.lemmas.Result.{err_from_is_err_and}
use Rattle.session.proofs.Visits.{unserved, stored, loaded, accepted, ends}
use Rattle.session.proofs.visit.round_trip.Goals as goal

pub returns-in_err-grant : goal.returns-in_err-grant
returns-in_err-grant g c =
    let p = err_from_is_err_and c.from_residual.result c.from_residual.ensures.1 in
    rw (p.1, p.2) (λ first events here. unserved here c.in_err-grant.ensures c.args.byte)

pub returns-in_err-store : goal.returns-in_err-store
returns-in_err-store g c first events here = absurd (stored here c.in_ok-grant.ensures c.in_err-store.ensures)

pub returns-in_err-read : goal.returns-in_err-read
returns-in_err-read g c first events here = absurd (loaded here c.in_ok-grant.ensures c.in_ok-store.ensures c.in_err-read.ensures)

pub returns-in_err-map_err : goal.returns-in_err-map_err
returns-in_err-map_err g c first events here =
    let ok = accepted here c.in_ok-grant.ensures c.in_ok-store.ensures c.pop.result c.pop.ensures.step in
    let never = rw ok at c.in_err-map_err.ensures.cases in
    absurd cc

pub returns : goal.returns
returns g c first events here = ends here c.in_ok-grant.ensures c.in_ok-store.ensures c.in_ok-read.ensures c.pop.ensures.step
