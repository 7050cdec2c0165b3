-- An element is appended to a live vector that is not full. Beside those of extend_from_slice: the goals are of another
-- call, and what the two share is the lemma `extending`.
use Rattle.std.proofs.Common.{[], ◌∷◌, Ok, Err, arith}
use Rattle.ser_vec.proofs.Stores.{failed}
use Rattle.ser_vec.proofs.Vectors.{unfit, extending}
use Rattle.ser_vec.proofs.vector.SerVec.push.Goals.{in-Some+in_ok-write, in_default}
use Rattle.ser_vec.proofs.vector.SerVec.push.Goals as goal

pub returns-in_err-reserve : goal.returns-in_err-reserve
returns-in_err-reserve g c = unfit c.in_err-reserve.ensures.step (failed _ c.from_residual.ensures.1)

pub returns-in_err-write : goal.returns-in_err-write
returns-in_err-write g c =
    let (lives, fits) = rw (← c.self.view_is, c.in-Some.is) at c.in_ok-reserve.ensures.room in
    rw (← c.self.view_is, c.in-Some.is, failed _ c.from_residual-in_err-write.ensures.1)
    (extending g.A.Allocator g.K.Kind c.in-Some.header c.args.session.now lives g.met.K.Kind.exact g.met.K.Kind.again c.write.new.session (c.args.value ∷ []) fits (Err c.in_err-write.field-0.0) c.in_err-write.ensures)

pub returns : goal.returns
returns g c =
    elim c.match-self.branch [
      | in-Some+in_ok-write w ↦
          let (lives, fits) = rw (← c.self.view_is, w.in-Some.is) at c.in_ok-reserve.ensures.room in
          rw (w.session-is, w.self-inside-is, ← c.self.view_is, w.in-Some.is)
          (extending g.A.Allocator g.K.Kind w.in-Some.header c.args.session.now lives g.met.K.Kind.exact g.met.K.Kind.again w.write.new.session (c.args.value ∷ []) fits (Ok tt) w.in_ok-write.ensures)
      | in_default w ↦
          let (lives, fits) = rw (← c.self.view_is, w.in_default.is) at c.in_ok-reserve.ensures.room in
          absurd (omega arith)
    ]
