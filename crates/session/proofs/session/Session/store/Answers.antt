use Rattle.std.proofs.Common.{Ok, refl, subst}
use Rattle.std.proofs.lemmas.Result.{err_from_is_err_and}
use Rattle.session.specs.Sessions.{state}
use Rattle.session.proofs.Steps.{accepted, declined, exact, store-unaddressed, store-done, store-faulted}
use Rattle.session.proofs.Owns.{own-untaken}
use Rattle.session.proofs.session.Session.store.Goals as goal

pub returns-in_err-at : goal.returns-in_err-at
returns-in_err-at g c =
    let p = err_from_is_err_and c.from_residual.result c.from_residual.ensures.1 in
    rw (p.1, p.2) (record {
      step = store-unaddressed _ c.args.grant.now.number c.args.offset c.args.byte c.in_err-at.field-0.0 c.in_err-at.ensures;
      own = λ ne. refl;
    })

pub returns-in_err-store : goal.returns-in_err-store
returns-in_err-store g c =
    let p = err_from_is_err_and c.from_residual-in_err-store.result c.from_residual-in_err-store.ensures.1 in
    let lawful = g.A.Allocator.lawful c.args.self.now.inner in
    let rule = c.in_err-store.ensures.rule in
    rw (p.1, p.2) (record {
      step = store-faulted _ lawful c.in_ok-at.ensures rule;
      own = own-untaken c.args.self.now.inner c.store.new.self c.in_err-store.field-0.0 (declined _ tt rule.answer).1;
    })

pub returns : goal.returns
returns g c =
    let lawful = g.A.Allocator.lawful c.args.self.now.inner in
    let found = c.in_ok-at.ensures in
    let inner = c.in_ok-store.ensures in
    let here = exact (state g.A.Allocator c.args.self.now) lawful found (accepted _ inner.rule.answer).0 in
    record {
      step = store-done _ lawful found inner.rule;
      own = (found.span, found.among, found.named, subst (λ x. g.A.Allocator.stores c.args.self.now.inner x c.args.byte (Ok tt) c.store.new.self) here inner.own);
    }
