-- The element at an index of a live vector is loaded.
use Rattle.std.proofs.Common.{Ok, Err, arith}
use Rattle.ser_vec.proofs.Stores.{failed}
use Rattle.ser_vec.proofs.Vectors.{dead, getting}
use Rattle.ser_vec.proofs.vector.SerVec.get.Goals as goal

pub returns-in_err-live : goal.returns-in_err-live
returns-in_err-live g c = dead c.in_err-live.ensures (failed _ c.from_residual.ensures.1)

pub returns-in_ok-read-in-Some : goal.returns-in_ok-read-in-Some
returns-in_ok-read-in-Some g c =
    rw (← c.self.view_is, c.in-Some.is) (getting g.A.Allocator g.K.Kind c.in-Some.header c.args.session.now (rw (← c.self.view_is, c.in-Some.is) at c.in_ok-live.ensures.0) c.args.index (omega arith) (Ok c.in_ok-read-in-Some.field-0) c.in_ok-read-in-Some.ensures)

pub returns-in_err-read-in-Some : goal.returns-in_err-read-in-Some
returns-in_err-read-in-Some g c =
    rw (← c.self.view_is, c.in-Some.is, failed _ c.from_residual-in_err-read-in-Some.ensures.1)
    (getting g.A.Allocator g.K.Kind c.in-Some.header c.args.session.now (rw (← c.self.view_is, c.in-Some.is) at c.in_ok-live.ensures.0) c.args.index (omega arith) (Err c.in_err-read-in-Some.field-0.0) c.in_err-read-in-Some.ensures)
