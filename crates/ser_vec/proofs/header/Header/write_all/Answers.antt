-- Each turn stores the packing of the next element.
use Rattle.std.proofs.Common.{zero-mul, arith}
use Rattle.ser_vec.proofs.Stores.{failed, stored-none, next-stored, next-cut}
use Rattle.ser_vec.proofs.header.Header.write_all.Goals as goal

pub loop-i-init : goal.loop-i-init
loop-i-init g c room = rw zero-mul (stored-none g.A.Allocator _ _ _ _ _)

pub loop-i-preserved : goal.loop-i-preserved
loop-i-preserved g c room =
    next-stored g.A.Allocator g.K.Kind g.met.K.Kind.exact _ _ _ _ _ c.args.index c.loop-i.i c.args.xs.now _ (omega arith) c.index-xs-i.is room (c.loop-i.invariant room) c.in_ok-write.ensures

pub returns-in_err-write : goal.returns-in_err-write
returns-in_err-write g c room =
    next-cut g.A.Allocator g.K.Kind g.met.K.Kind.exact _ _ _ _ _ c.args.index c.loop-i.i c.args.xs.now _ (omega arith) c.index-xs-i.is room (c.loop-i.invariant room) (failed _ c.from_residual.ensures.1) c.in_err-write.ensures
