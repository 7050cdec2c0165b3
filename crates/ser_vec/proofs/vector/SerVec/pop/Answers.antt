-- The last element of a live vector is loaded and taken off, or there is none.
use Rattle.std.proofs.Common.{Some, None, Ok, Err, refl, arith}
use Rattle.ser_vec.specs.Vectors.{none}
use Rattle.ser_vec.proofs.Stores.{failed}
use Rattle.ser_vec.proofs.Vectors.{dead, formed, alone, popping}
use Rattle.ser_vec.proofs.vector.SerVec.pop.Goals.{in-Some+in_ok-x-in-Some, in_default, in_default-via-in-Some+else-header-gt0, in_default-via-in_default}
use Rattle.ser_vec.proofs.vector.SerVec.pop.Goals as goal

pub returns-in_err-live : goal.returns-in_err-live
returns-in_err-live g c = dead c.in_err-live.ensures (failed _ c.from_residual.ensures.1)

pub returns-in_err-x-in-Some : goal.returns-in_err-x-in-Some
returns-in_err-x-in-Some g c =
    rw (← c.self.view_is, c.in-Some.is, failed _ c.from_residual-in_err-x-in-Some.ensures.1)
    (popping g.A.Allocator g.K.Kind c.in-Some.header c.args.session.now (rw (← c.self.view_is, c.in-Some.is) at c.in_ok-live.ensures.0) (omega arith) (Err c.in_err-x-in-Some.field-0.0) c.in_err-x-in-Some.ensures)

pub returns : goal.returns
returns g c =
    elim c.match-self.branch [
      | in-Some+in_ok-x-in-Some w ↦
          rw (w.result-is, w.self-inside-is, ← c.self.view_is, w.in-Some.is)
          (popping g.A.Allocator g.K.Kind w.in-Some.header c.args.session.now (rw (← c.self.view_is, w.in-Some.is) at c.in_ok-live.ensures.0) (omega arith) (Ok w.in_ok-x-in-Some.x) w.in_ok-x-in-Some.ensures)
      | in_default w ↦ elim w.in_default.branch [
        | in_default-via-in-Some+else-header-gt0 w' ↦
            rw (w.result-is, w.self-inside-is, w'.self-inside-is, ← c.self.view_is, w'.in-Some.is) (alone (formed (Some w'.in-Some.header) refl) (formed (Some w'.in-Some.header) refl) (rw (← c.self.view_is, w'.in-Some.is) at c.in_ok-live.ensures.0) (none (omega arith)))
        | in_default-via-in_default w' ↦
            rw (w.result-is, w.self-inside-is, w'.self-inside-is, ← c.self.view_is, w'.in_default.is) (alone (formed None refl) (formed None refl) (rw (← c.self.view_is, w'.in_default.is) at c.in_ok-live.ensures.0) (none refl))
      ]
    ]
