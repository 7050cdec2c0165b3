-- What the session answered to the call is what is told of the entry.
use Rattle.std.proofs.Common.{Err, refl, ap, ◌∙◌}
use Rattle.std.proofs.lemmas.Result.{err_from_is_err_and}
use Rattle.session.specs.Calls.{granted, refused}
use Rattle.job.proofs.run.step.Goals as goal

pub returns-in_err-at-in-Some : goal.returns-in_err-at-in-Some
returns-in_err-at-in-Some g c =
    let p = err_from_is_err_and c.from_residual.result c.from_residual.ensures.1 in
    rw c.in-Some.ensures (record { answer = refused c.in_err-at-in-Some.field-0.0; shows = p.1 ∙ ap Err p.2; performs = c.in_err-at-in-Some.ensures })

pub returns-in_err-pop_newest-in-None : goal.returns-in_err-pop_newest-in-None
returns-in_err-pop_newest-in-None g c =
    let p = err_from_is_err_and c.from_residual-in_err-pop_newest-in-None.result c.from_residual-in_err-pop_newest-in-None.ensures.1 in
    rw c.in-None.ensures (record { answer = refused c.in_err-pop_newest-in-None.field-0.0; shows = p.1 ∙ ap Err p.2; performs = c.in_err-pop_newest-in-None.ensures })

pub returns-in_ok-at-in-Some : goal.returns-in_ok-at-in-Some
returns-in_ok-at-in-Some g c =
    rw c.in-Some.ensures (record { answer = granted c.in_ok-at-in-Some.field-0-0.number c.in_ok-at-in-Some.at; shows = refl; performs = c.in_ok-at-in-Some.ensures })
