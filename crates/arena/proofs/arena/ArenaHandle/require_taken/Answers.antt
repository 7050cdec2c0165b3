use Rattle.std.proofs.Common.{sym, ◌∙◌}
use Rattle.arena.specs.Arenas.{blocks_of}
use Rattle.arena.proofs.Sources.{loaded}
use Rattle.arena.proofs.arena.ArenaHandle.require_taken.Goals as goal

pub returns-then-taken-clause-yes : goal.returns-then-taken-clause-yes
returns-then-taken-clause-yes g c =
    let h = c.args.self.now in
    let s = g.S.BlockSource.state h.arena.source in
    let on = sym (c.taken.ensures s.blocks) ∙ c.if-taken.true in (
      on,
      loaded s.blocks (g.S.BlockSource.lawful h.arena.source) (blocks_of h.arena.ring) h.used c.args.at h.arena.kept h.marked on,
    )
