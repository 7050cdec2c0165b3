use Rattle.uses.specs.Lives.{acquires, tracks}
use Rattle.uses.proofs.begin.Goals as goal

pub returns-clause-visits : goal.returns-clause-visits
returns-clause-visits g c first most life events s run =
    let a = c.acquire.ensures in
    tracks (acquires life (record { mark = a.mark; after = a.state; gave = a.gave })) c.track.ensures.inner c.track.ensures.fresh run
