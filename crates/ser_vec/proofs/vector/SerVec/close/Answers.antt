-- A live vector gives its span back, or is handed back.
use Rattle.std.proofs.Common.{refl}
use Rattle.ser_vec.proofs.Vectors.{dead, closing, closing-refused}
use Rattle.ser_vec.proofs.vector.SerVec.close.Goals as goal

pub returns-in-Err-clause-step : goal.returns-in-Err-clause-step
returns-in-Err-clause-step g c = dead c.in-Err.ensures refl

pub returns-in-Ok-clause-step : goal.returns-in-Ok-clause-step
returns-in-Ok-clause-step g c =
    rw (← c.self.view_is, c.in-Some.is) (closing g.A.Allocator g.K.Kind c.in-Some.field-0 c.args.session.now (rw (← c.self.view_is, c.in-Some.is) at c.in_default.ensures.0) c.pop.new.self c.in-Ok.ensures.step)

pub returns-in-Err-pop-clause-step : goal.returns-in-Err-pop-clause-step
returns-in-Err-pop-clause-step g c =
    rw (← c.self.view_is, c.in-Some.is) (closing-refused g.A.Allocator g.K.Kind c.in-Some.field-0 c.args.session.now (rw (← c.self.view_is, c.in-Some.is) at c.in_default.ensures.0) c.pop.new.self c.in-Err-pop.fault c.in-Err-pop.ensures.step)
