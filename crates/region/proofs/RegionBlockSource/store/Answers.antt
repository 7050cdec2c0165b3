use Rattle.region.proofs.Calls.{stores}
use Rattle.region.proofs.RegionBlockSource.store.Goals as goal

pub returns-clause-rule : goal.returns-clause-rule
returns-clause-rule c =
    let r = c.args.self.now in
    let found = c.in_ok-i.ensures.found in
    rw found.0 (stores r c.in_ok-i.i (rw found.0 at found.2) c.args.byte)
