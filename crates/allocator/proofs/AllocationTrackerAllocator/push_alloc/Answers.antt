use Rattle.std.proofs.lemmas.Result.{err_from_is_err_and}
use Rattle.allocator.proofs.AllocationTrackerAllocator.push_alloc.Goals as goal

pub returns-in_err-at-clause-rule : goal.returns-in_err-at-clause-rule
returns-in_err-at-clause-rule g c =
    let p = err_from_is_err_and c.from_residual.result c.from_residual.ensures.1 in
    rw (p.1, p.2) c.in_err-at.ensures.rule
