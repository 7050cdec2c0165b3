use Rattle.std.proofs.Common.{refl, arith}
use Rattle.sub_allocator.proofs.Fixed.{unfit, fit, served}
use Rattle.sub_allocator.proofs.SubAllocatorAllocator.push_alloc.Goals as goal

pub returns-then-wanted-room-clause-rule : goal.returns-then-wanted-room-clause-rule
returns-then-wanted-room-clause-rule c =
    let s = c.args.self.now in
    let l = c.args.layout in
    unfit s.base s.used s.bytes.now s.low s.inside l.size l.align c.align_offset-pad.result c.align_offset-pad.ensures.value (omega arith)

pub returns-clause-own : goal.returns-clause-own
returns-clause-own c =
    let s = c.args.self.now in
    let l = c.args.layout in
    (fit s.base s.used s.bytes.now s.low s.inside l.size l.align c.align_offset-pad.result c.align_offset-pad.ensures.value (omega arith), refl, refl)

pub returns-clause-rule : goal.returns-clause-rule
returns-clause-rule c =
    let s = c.args.self.now in
    let l = c.args.layout in
    rw c.size.ensures.value (served s.base s.used s.bytes.now s.low s.inside l.size l.align c.align_offset-pad.result c.align_offset-pad.ensures.value (omega arith))
