use Rattle.std.proofs.Common.{sym, refl, subst, arith}
use Rattle.std.proofs.lemmas.Result.{err_from_is_err_and}
use Rattle.session.specs.Steps.{IsNewest}
use Rattle.session.specs.declared.fault.Fault.TheVariants.{NotLive}
use Rattle.session.proofs.Records.{nothing, live-newest}
use Rattle.session.proofs.Steps.{pop-dead, pop-older, pop-by-grant}
use Rattle.session.proofs.session.Session.pop_numbered.Goals as goal

pub returns-in_err-ok_or : goal.returns-in_err-ok_or
returns-in_err-ok_or g c =
    let p = err_from_is_err_and c.from_residual.result c.from_residual.ensures.1 in
    let (none, is) = nothing c.find.result NotLive c.in_err-ok_or.field-0.0 c.in_err-ok_or.ensures.value in
    rw (p.1, p.2, is) (record { step = pop-dead _ c.args.grant (rw none at c.find.ensures); own = λ ne. refl })

pub returns-in-Some : goal.returns-in-Some
returns-in-Some g c =
    let last = rw c.deref.ensures.0 at c.in-Some.ensures.value in
    let newest = live-newest c.args.self.now.spans.items c.in-Some.newest.now (sym last) in
    record { step = pop-by-grant c.pop_newest.ensures.step _ _ newest c.args.grant (omega arith); own = c.pop_newest.ensures.own }

pub returns-in_default : goal.returns-in_default
returns-in_default g c =
    let found = rw c.in_ok-ok_or.ensures.ok_part at c.find.ensures in
    let last = rw c.deref.ensures.0 at c.in-Some.ensures.value in
    let newest = live-newest c.args.self.now.spans.items c.in-Some.newest.now (sym last) in
    record {
      step = pop-older _ c.args.grant _ found.0 found.1 (λ is. c.if-newest-grant.false (subst (λ l. IsNewest l c.args.grant) newest is));
      own = λ ne. refl;
    }
