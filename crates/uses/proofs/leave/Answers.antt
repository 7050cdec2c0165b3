use Rattle.std.proofs.Common.{subst}
use Rattle.arena.specs.declared.arena.ArenaHandle.{ArenaHandle}
use Rattle.uses.specs.Lives.{Released, releases}
use Rattle.uses.proofs.leave.Goals as goal

pub returns-clause-leaves : goal.returns-clause-leaves
returns-clause-leaves g c first most life =
    let r = c.release.ensures in
    releases life (subst (λ (h : ArenaHandle g.row.S.Denot g.S.BlockSource). Released g.S.BlockSource h c.release.result) c.finish.ensures (record { same = r.source; after = r.state }))
