use Rattle.sub_allocator.proofs.Fixed.{load-found}
use Rattle.sub_allocator.proofs.SubAllocatorAllocator.load.Goals as goal

pub returns : goal.returns
returns c =
    let s = c.args.self.now in
    let found = c.in_ok-i.ensures.found in
    rw found.0 (load-found s.base s.used s.bytes.now s.low s.inside c.in_ok-i.i found.1)
