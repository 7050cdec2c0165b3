use Rattle.arena.specs.Arenas.{blocks_of}
use Rattle.arena.proofs.Sources.{store-kept}
use Rattle.arena.proofs.arena.Arena.store.Goals as goal

pub invariant_of-self : goal.invariant_of-self
invariant_of-self g c =
    let a = c.args.self.now in
    record { counted = a.counted; kept = store-kept (g.S.BlockSource.state a.source) _ c.args.at c.args.byte _ (blocks_of a.ring) c.store.ensures.rule a.kept }
