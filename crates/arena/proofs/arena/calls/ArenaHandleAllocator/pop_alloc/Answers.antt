use Rattle.std.proofs.Common.{sym, ◌∙◌}
use Rattle.allocator.proofs.Laws.{pop-undoes}
use Rattle.arena.specs.Arenas.{blocks_of}
use Rattle.arena.specs.Rings.{place}
use Rattle.arena.specs.Views.{handle-lawful}
use Rattle.arena.proofs.Steps.{popped-newest}
use Rattle.arena.proofs.arena.calls.ArenaHandleAllocator.pop_alloc.Goals as goal

pub returns-then-covers-clause-undoes : goal.returns-then-covers-clause-undoes
returns-then-covers-clause-undoes g c =
    let h = c.args.self.now in
    pop-undoes c.args.at _ _ _ (handle-lawful g.S.BlockSource h)
    (popped-newest (g.S.BlockSource.state h.arena.source).blocks (blocks_of h.arena.ring) (place c.in-Some.tail) _ h.used c.args.at c.in-Some.ensures c.in_ok-require_taken.ensures.yes.0 (sym c.covers.ensures ∙ c.if-covers.true))
