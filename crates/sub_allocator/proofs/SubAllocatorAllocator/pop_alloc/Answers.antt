use Rattle.sub_allocator.specs.Buffers.{fixed-lawful}
use Rattle.sub_allocator.proofs.Fixed.{pop-found}
use Rattle.allocator.proofs.Laws.{pop-undoes}
use Rattle.sub_allocator.proofs.SubAllocatorAllocator.pop_alloc.Goals as goal

pub returns-clause-undoes : goal.returns-clause-undoes
returns-clause-undoes c =
    let s = c.args.self.now in
    let found = c.in_ok-i.ensures.found in
    rw found.0 (pop-undoes _ _ _ _ (fixed-lawful s.base s.used s.bytes.now) (pop-found s.base s.used s.bytes.now s.low s.inside c.in_ok-i.i found.1))
