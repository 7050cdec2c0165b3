use Rattle.uses.specs.Lives.{reopens}
use Rattle.uses.proofs.calls.reopen.Goals as goal

pub returns : goal.returns
returns g c first most life = reopens life c.with_capacity.ensures.opens
