-- The element at an index of a live vector is stored.
use Rattle.std.proofs.Common.{arith}
use Rattle.ser_vec.proofs.Stores.{failed}
use Rattle.ser_vec.proofs.Vectors.{dead, setting}
use Rattle.ser_vec.proofs.vector.SerVec.set.Goals as goal

pub returns-in_err-live : goal.returns-in_err-live
returns-in_err-live g c = dead c.in_err-live.ensures (failed _ c.from_residual.ensures.1)

pub returns-in-Some : goal.returns-in-Some
returns-in-Some g c =
    rw (← c.self.view_is, c.in-Some.is) (setting g.A.Allocator g.K.Kind c.in-Some.header c.args.session.now (rw (← c.self.view_is, c.in-Some.is) at c.in_ok-live.ensures.0) g.met.K.Kind.exact g.met.K.Kind.again c.write.new.session c.args.index c.args.value (omega arith) c.write.result c.write.ensures)
