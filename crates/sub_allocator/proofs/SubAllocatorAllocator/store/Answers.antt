use Rattle.sub_allocator.proofs.Fixed.{store-found}
use Rattle.sub_allocator.proofs.SubAllocatorAllocator.store.Goals as goal

pub returns-clause-rule : goal.returns-clause-rule
returns-clause-rule c =
    let s = c.args.self.now in
    let found = c.in_ok-i.ensures.found in
    rw found.0 (store-found s.base s.used s.bytes.now s.low s.inside c.in_ok-i.i found.1 c.args.byte)
