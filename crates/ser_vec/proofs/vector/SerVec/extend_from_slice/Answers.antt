-- Elements are appended to a live vector that has room for them.
use Rattle.std.proofs.Common.{◌≡◌, length, None, Ok, Err, refl, arith}
use Rattle.std.proofs.lemmas.List.{nil_from_length}
use Rattle.ser_vec.specs.Vectors.{nothing}
use Rattle.ser_vec.proofs.Stores.{failed}
use Rattle.ser_vec.proofs.Vectors.{formed, alone, extending}
use Rattle.ser_vec.proofs.vector.SerVec.extend_from_slice.Goals.{in-Some+in_ok-write_all, in_default}
use Rattle.ser_vec.proofs.vector.SerVec.extend_from_slice.Goals as goal

pub returns-in_err-write_all : goal.returns-in_err-write_all
returns-in_err-write_all g c =
    let (lives, fits) = rw (← c.self.view_is, c.in-Some.is) at c.in_ok-reserve.ensures.room in
    rw (← c.self.view_is, c.in-Some.is, failed _ c.from_residual-in_err-write_all.ensures.1)
    (extending g.A.Allocator g.K.Kind c.in-Some.header c.args.session.now lives g.met.K.Kind.exact g.met.K.Kind.again c.write_all.new.session c.args.other.now fits (Err c.in_err-write_all.field-0.0) c.in_err-write_all.ensures)

pub returns : goal.returns
returns g c =
    elim c.match-self.branch [
      | in-Some+in_ok-write_all w ↦
          let (lives, fits) = rw (← c.self.view_is, w.in-Some.is) at c.in_ok-reserve.ensures.room in
          rw (w.session-is, w.self-inside-is, ← c.self.view_is, w.in-Some.is)
          (extending g.A.Allocator g.K.Kind w.in-Some.header c.args.session.now lives g.met.K.Kind.exact g.met.K.Kind.again w.write_all.new.session c.args.other.now fits (Ok tt) w.in_ok-write_all.ensures)
      | in_default w ↦
          let (lives, fits) = rw (← c.self.view_is, w.in_default.is) at c.in_ok-reserve.ensures.room in
          let none : length c.args.other.now ≡ 0 = omega arith in
          rw (w.session-is, w.self-inside-is, ← c.self.view_is, w.in_default.is) (alone (formed None refl) (formed None refl) lives (nothing refl (nil_from_length c.args.other.now none)))
    ]
