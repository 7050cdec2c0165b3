-- A live vector has no elements left, and without capacity there is nothing to clear.
use Rattle.std.proofs.Common.{Some, None, refl, arith}
use Rattle.ser_vec.specs.Vectors.{clears}
use Rattle.ser_vec.proofs.Stores.{failed}
use Rattle.ser_vec.proofs.Vectors.{dead, formed, alone, formed-resized}
use Rattle.ser_vec.proofs.vector.SerVec.clear.Goals.{in-Some, in_default}
use Rattle.ser_vec.proofs.vector.SerVec.clear.Goals as goal

pub returns-in_err-live : goal.returns-in_err-live
returns-in_err-live g c = dead c.in_err-live.ensures (failed _ c.from_residual.ensures.1)

pub returns : goal.returns
returns g c =
    elim c.match-self.branch [
      | in-Some w ↦ rw (w.self-inside-is, ← c.self.view_is, w.in-Some.is) (alone (formed (Some w.in-Some.header) refl) (formed-resized w.in-Some.header 0 (omega arith)) (rw (← c.self.view_is, w.in-Some.is) at c.in_ok-live.ensures.0) clears)
      | in_default w ↦ rw (w.self-inside-is, ← c.self.view_is, w.in_default.is) (alone (formed None refl) (formed None refl) (rw (← c.self.view_is, w.in_default.is) at c.in_ok-live.ensures.0) clears)
    ]
