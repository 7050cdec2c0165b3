use Rattle.std.proofs.Common.{arith}
use Rattle.arena.specs.Arenas.{blocks_of}
use Rattle.arena.proofs.Steps.{counts, growths-fit, fresh}
use Rattle.arena.proofs.arena.Arena.take.Goals as goal

pub overflow_add-self : goal.overflow_add-self
overflow_add-self g c = let a = c.args.self.now in rw (c.from.ensures, c.opened.ensures) (growths-fit a.growths (blocks_of a.ring) a.counted a.ring.rises)

pub invariant_of-self-2 : goal.invariant_of-self-2
invariant_of-self-2 g c =
    let a = c.args.self.now in
    let f = fresh (g.S.BlockSource.state a.source) (g.S.BlockSource.state c.take.new.self) c.args.size (omega arith) c.requires.small (blocks_of a.ring) c.in_ok-at.at a.kept a.ring.rises c.in_ok-at.ensures.rule in
    record {
      counted = rw (c.push_next.ensures, c.from.ensures, c.opened.ensures) (counts a.growths c.args.size (blocks_of a.ring) a.counted c.requires.some c.requires.doubles);
      kept = rw c.push_next.ensures f.kept;
    }
