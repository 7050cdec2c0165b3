use Rattle.uses.specs.Lives.{acquires, visits}
use Rattle.uses.proofs.enter.Goals as goal

pub returns-clause-visits : goal.returns-clause-visits
returns-clause-visits g c first most life events s run =
    let a = c.acquire.ensures in
    visits (acquires life (record { mark = a.mark; after = a.state; gave = a.gave })) c.open.ensures.inner c.open.ensures.fresh run
