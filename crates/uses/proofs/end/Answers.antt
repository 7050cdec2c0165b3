use Rattle.std.proofs.Common.{◌≡◌, ap, ◌∙◌, subst}
use Rattle.allocator.specs.declared.AllocationTracker.{AllocationTracker}
use Rattle.arena.specs.declared.arena.ArenaHandle.{ArenaHandle}
use Rattle.uses.specs.Lives.{Released, releases}
use Rattle.uses.proofs.end.Goals as goal

pub returns-clause-leaves : goal.returns-clause-leaves
returns-clause-leaves g c first most life =
    let inner : c.into_stats-handle.result.1 ≡ c.args.session.inner.inner =
    c.into_stats-handle.ensures.inner ∙ ap (λ (t : AllocationTracker (ArenaHandle g.row.S.Denot g.S.BlockSource)). t.inner) c.finish.ensures in
    let r = c.release.ensures in
    releases life (subst (λ (h : ArenaHandle g.row.S.Denot g.S.BlockSource). Released g.S.BlockSource h c.release.result) inner (record { same = r.source; after = r.state }))
