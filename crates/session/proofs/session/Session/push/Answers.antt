use Rattle.std.proofs.Common.{◌≡◌, ℕ, ◌<◌, ◌≤◌, false, List, length, sym, refl, inl, inr, arith}
use Rattle.std.proofs.lemmas.Bool.{eqb-true, eqb-false}
use Rattle.std.proofs.lemmas.Result.{err_from_is_err_and}
use Rattle.std.specs.Prelude.{◌==◌}
use Rattle.allocator.specs.Memory.{Memory}
use Rattle.session.specs.Steps.{new_state, TooMany}
use Rattle.session.specs.Records.{live}
use Rattle.session.specs.Sessions.{state}
use Rattle.session.specs.declared.live.LiveSpan.{LiveSpan}
use Rattle.session.proofs.Records.{live-length, live-more}
use Rattle.session.proofs.Steps.{push-unlaid, push-full, push-served, push-unserved, push-refused}
use Rattle.session.proofs.Owns.{own-unserved, own-unlaid}
use Rattle.session.proofs.session.Session.push.Goals as goal
use Rattle.session.proofs.session.Session.push.Goals.{then-is_full-via-then-is_full, then-is_full-via-else-is_full+then-self}

room : (memory : Memory) (spans : List LiveSpan) (given : ℕ) → (length spans == 64) ≡ false → length spans ≤ 64 → given < 4294967295 → TooMany (new_state memory (live spans) given) → ⊥
room memory spans given full most left (inl many) = eqb-false (length spans) 64 full (omega (arith, live-length spans))
room memory spans given full most left (inr all) = omega arith

pub returns-in_err-layout : goal.returns-in_err-layout
returns-in_err-layout g c =
    let p = err_from_is_err_and c.from_residual.result c.from_residual.ensures.1 in
    let f = c.in_err-layout.field-0.0 in
    let bad = c.in_err-layout.ensures in
    rw (p.1, p.2) (record {
      step = push-unlaid _ c.args.size c.args.align f bad;
      own = own-unlaid g.A.Allocator c.args.self.now.inner c.args.size c.args.align f bad;
    })

pub returns-then-is_full : goal.returns-then-is_full
returns-then-is_full g c =
    let s = c.args.self.now in
    let (es, ea) = c.in_ok-layout.ensures in
    let all : TooMany (state g.A.Allocator s) = elim c.then-is_full.branch [
      | then-is_full-via-then-is_full w ↦
          let full : length s.spans.items ≡ 64 = eqb-true _ _ (sym w.if-is_full.ensures.value) in
          inl (omega (arith, live-length s.spans.items))
      | then-is_full-via-else-is_full+then-self w ↦ inr (omega arith)
    ] in
    record { step = push-full _ c.in_ok-layout.layout es ea all; own = refl }

pub returns-in_err-at : goal.returns-in_err-at
returns-in_err-at g c =
    let p = err_from_is_err_and c.from_residual-in_err-at.result c.from_residual-in_err-at.ensures.1 in
    let s = c.args.self.now in
    let (es, ea) = c.in_ok-layout.ensures in
    let l = c.in_ok-layout.layout in
    let f = c.in_err-at.field-0.0 in
    let inner = c.in_err-at.ensures in
    let free = room (g.A.Allocator.blocks s.inner) s.spans.items s.given (sym c.if-is_full.ensures.value) c.if-is_full.ensures.fits (omega arith) in
    rw (p.1, p.2) (record {
      step = push-unserved _ l es ea free inner.rule;
      own = own-unserved g.A.Allocator f (push-refused _ _ l.size l.align f inner.rule).0 (rw (es, ea) at inner.own);
    })

pub returns : goal.returns
returns g c =
    let s = c.args.self.now in
    let (es, ea) = c.in_ok-layout.ensures in
    let l = c.in_ok-layout.layout in
    let inner = c.in_ok-at.ensures in
    let free = room (g.A.Allocator.blocks s.inner) s.spans.items s.given (sym c.if-is_full.ensures.value) c.if-is_full.ensures.fits (omega arith) in
    record {
      step = rw (c.push.ensures.items, live-more) (push-served _ l es ea free inner.rule);
      own = rw (← es, ← ea) inner.own;
    }
