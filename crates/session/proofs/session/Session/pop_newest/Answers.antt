use Rattle.std.proofs.Common.{◌+◌, ◌-◌, ◌∷◌, length, take, refl, sym}
use Rattle.std.proofs.lemmas.Result.{err_from_is_err_and}
use Rattle.session.specs.Steps.{refuses, nothing_live}
use Rattle.session.specs.declared.fault.Fault.TheVariants.{NotLive}
use Rattle.session.proofs.Records.{nothing, live-none, live-newest}
use Rattle.session.specs.Records.{recorded, live, Numbered}
use Rattle.session.proofs.Grants.{numbered-more}
use Rattle.session.proofs.Steps.{declined, pop-done, pop-faulted}
use Rattle.session.proofs.Owns.{own-untaken}
use Rattle.session.proofs.session.Session.pop_newest.Goals as goal

pub returns-in_err-newest : goal.returns-in_err-newest
returns-in_err-newest g c =
    let p = err_from_is_err_and c.from_residual.result c.from_residual.ensures.1 in
    let (none, is) = nothing c.last.result NotLive c.in_err-newest.field-0.0 c.in_err-newest.ensures.value in
    let last = rw (c.deref.ensures.0, none) at c.last.ensures.value in
    rw (p.1, p.2, is) (record { step = refuses (nothing_live (live-none c.args.self.now.spans.items (sym last))); own = λ ne. refl })

pub returns-in_err-pop_alloc : goal.returns-in_err-pop_alloc
returns-in_err-pop_alloc g c =
    let p = err_from_is_err_and c.from_residual-in_err-pop_alloc.result c.from_residual-in_err-pop_alloc.ensures.1 in
    let s = c.args.self.now in
    let f = c.in_err-pop_alloc.field-0.0 in
    let rule = c.in_err-pop_alloc.ensures.rule in
    let last = rw (c.deref.ensures.0, c.in_ok-newest.ensures.ok_part) at c.last.ensures.value in
    rw (p.1, p.2) (record {
      step = pop-faulted (live-newest s.spans.items c.in_ok-newest.field-0.now (sym last)) rule;
      own = own-untaken s.inner c.pop_alloc.new.self f (declined _ tt rule.answer).1;
    })

pub invariant_of-self-2 : goal.invariant_of-self-2
invariant_of-self-2 g c =
    let s = c.args.self.now in
    let last = rw (c.deref.ensures.0, c.in_ok-newest.ensures.ok_part) at c.last.ensures.value in
    let newest = live-newest s.spans.items c.in_ok-newest.field-0.now (sym last) in
    let rises : Numbered (s.given + 1) (recorded c.in_ok-newest.field-0.now ∷ live (take (length s.spans.items - 1) s.spans.items)) = rw newest at s.numbered in
    rw c.pop.ensures.rest (record { numbered = numbered-more _ _ _ rises.0 rises.1 })

pub returns : goal.returns
returns g c =
    let s = c.args.self.now in
    let inner = c.in_ok-pop_alloc.ensures in
    let last = rw (c.deref.ensures.0, c.in_ok-newest.ensures.ok_part) at c.last.ensures.value in
    let newest = live-newest s.spans.items c.in_ok-newest.field-0.now (sym last) in
    record {
      step = rw c.pop.ensures.rest (pop-done newest inner.rule);
      own = rw newest inner.own;
    }
