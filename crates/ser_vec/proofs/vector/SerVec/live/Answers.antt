-- The session has another span of the grant on record, or none.
use Rattle.std.proofs.Common.{◌≡◌, ◌*◌, Some, refl}
use Rattle.session.specs.Sessions.{state}
use Rattle.ser_vec.proofs.Vectors.{told-span, same-pair, formed}
use Rattle.ser_vec.proofs.vector.SerVec.live.Goals as goal

pub returns-else-eq : goal.returns-else-eq
returns-else-eq g c =
    let h = c.in-Some.header in
    let spans = (state g.A.Allocator c.args.session.now).live in (
      refl,
      λ unique lives.
          let held = rw (← c.self.view_is, c.in-Some.is, ← c.width.ensures) at lives in
          let is : c.span_of.result ≡ Some (h.at, h.cap * c.width.result) = told-span spans h.grant.number h.at (h.cap * c.width.result) c.span_of.result unique c.span_of.ensures held in
          same-pair h.at (h.cap * c.width.result) (rw is at c.if-eq.ensures),
      formed c.args.self.now refl,
    )
