use Rattle.uses.specs.Lives.{unvisited}
use Rattle.uses.proofs.calls.release.Goals as goal

pub returns : goal.returns
returns g c first most life = unvisited life (record { same = c.release.ensures.source; after = c.release.ensures.state })
