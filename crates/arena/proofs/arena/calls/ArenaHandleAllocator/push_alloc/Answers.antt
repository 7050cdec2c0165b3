use Rattle.std.proofs.Common.{◌+◌, ◌-◌, ◌<◌, ◌≤◌, arith}
use Rattle.std.proofs.lemmas.Result.{err_from_is_err_and}
use Rattle.allocator.proofs.Laws.{push-served}
use Rattle.arena.specs.Arenas.{blocks_of}
use Rattle.arena.specs.Keeps.{memory-lawful}
use Rattle.arena.specs.Rings.{place}
use Rattle.arena.specs.Views.{handle-lawful}
use Rattle.arena.proofs.Steps.{tail-none, unserved, unfit, served, marked, beyond}
use Rattle.arena.proofs.arena.calls.ArenaHandleAllocator.push_alloc.Goals as goal

pub returns-in_err-tail-clause-rule : goal.returns-in_err-tail-clause-rule
returns-in_err-tail-clause-rule g c =
    let p = err_from_is_err_and c.from_residual.result c.from_residual.ensures.1 in
    let h = c.args.self.now in
    let none = tail-none h.arena.ring.records.items c.tail.result _ _ c.in_err-tail.ensures.value c.tail.ensures in
    rw (p.1, p.2, none.1) (unserved (g.S.BlockSource.state h.arena.source).blocks (blocks_of h.arena.ring) h.used c.args.layout.size c.args.layout.align none.0)

pub returns-then-wanted-room-clause-serves : goal.returns-then-wanted-room-clause-serves
returns-then-wanted-room-clause-serves g c =
    let h = c.args.self.now in
    let s = g.S.BlockSource.state h.arena.source in
    let ps = blocks_of h.arena.ring in
    let l = c.args.layout in
    let first = rw c.in_ok-tail.ensures.ok_part at c.tail.ensures in
    let under : c.align_offset-pad.result + c.size.result ≤ c.in_ok-tail.tail.size - 16 - c.args.self.now.used = omega arith in
    push-served (handle-lawful g.S.BlockSource h)
    (memory-lawful s.blocks (g.S.BlockSource.lawful h.arena.source) ps _ h.arena.kept h.arena.ring.rises (marked s.blocks ps (place c.in_ok-tail.tail) _ h.used l.size l.align _ _ first h.arena.kept c.align_offset-pad.ensures.value c.size.ensures.value under h.marked))
    l.low
    (served s.blocks ps (place c.in_ok-tail.tail) _ h.used l.size l.align _ _ first h.arena.kept c.align_offset-pad.ensures.value c.size.ensures.value under)

pub returns-clause-rule : goal.returns-clause-rule
returns-clause-rule g c =
    let h = c.args.self.now in
    let s = g.S.BlockSource.state h.arena.source in
    let ps = blocks_of h.arena.ring in
    let l = c.args.layout in
    let first = rw c.in_ok-tail.ensures.ok_part at c.tail.ensures in
    let over : c.in_ok-tail.tail.size - 16 - c.args.self.now.used < c.align_offset-pad.result + c.size.result = omega arith in
    let off = unfit s.blocks ps (place c.in_ok-tail.tail) _ h.used l.size l.align _ _ first h.arena.kept c.align_offset-pad.ensures.value c.size.ensures.value over in
    beyond _ _ _ _ _ _ _ h.arena.kept c.grow.new.self.arena.kept off c.grow.ensures.extends

pub returns-clause-serves : goal.returns-clause-serves
returns-clause-serves g c =
    push-served (handle-lawful g.S.BlockSource c.args.self.now) (handle-lawful g.S.BlockSource c.grow.new.self) c.args.layout.low (returns-clause-rule g c)
