use Rattle.uses.specs.Lives.{shrinks}
use Rattle.uses.proofs.calls.shrink.Goals as goal

pub returns : goal.returns
returns g c first most life = shrinks life (record { after = c.shrink.ensures.state; gave = c.shrink.ensures.gave })
