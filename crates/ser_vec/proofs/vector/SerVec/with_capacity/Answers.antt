-- A vector is opened by a push, or refused before it.
use Rattle.std.proofs.Common.{◌*◌, ◌<◌, ◌≤◌, [], subst, div-lt_iff_lt-mul, le-div_iff_mul-le, arith}
use Rattle.session.specs.Runs.{opened}
use Rattle.ser_vec.specs.Vectors.{bare, too_large}
use Rattle.ser_vec.proofs.Stores.{failed}
use Rattle.ser_vec.proofs.Vectors.{opening, opening-refused}
use Rattle.ser_vec.proofs.vector.SerVec.with_capacity.Goals as goal

pub returns-then-cap-eq0 : goal.returns-then-cap-eq0
returns-then-cap-eq0 g c = record { events = []; run = opened; rule = bare c.if-cap-eq0.true }

pub returns-then-cap-width : goal.returns-then-cap-width
returns-then-cap-width g c =
    let some : 0 < c.width-width.result = omega (arith, g.met.K.Kind.narrow.0, c.width-width.ensures) in
    let large : 16777216 < c.args.cap * c.width-width.result = (div-lt_iff_lt-mul some).0 c.if-cap-width.true in
    record { events = []; run = opened; rule = too_large (subst (λ n. 16777216 < c.args.cap * n) c.width-width.ensures large) }

pub returns-in_err-grant : goal.returns-in_err-grant
returns-in_err-grant g c =
    let some : 0 < c.width-width.result = omega (arith, g.met.K.Kind.narrow.0, c.width-width.ensures) in
    let less : c.args.cap * c.width-width.result ≤ 16777216 = (le-div_iff_mul-le some).0 c.if-cap-width.false in
    rw (failed _ c.from_residual.ensures.1)
    (opening-refused g.A.Allocator g.K.Kind c.args.cap c.args.session.now c.push.new.self c.width-width.result c.align.result c.width-width.ensures c.align.ensures
    (omega arith) less c.in_err-grant.field-0.0 c.in_err-grant.ensures)

pub returns : goal.returns
returns g c =
    let some : 0 < c.width-width.result = omega (arith, g.met.K.Kind.narrow.0, c.width-width.ensures) in
    let less : c.args.cap * c.width-width.result ≤ 16777216 = (le-div_iff_mul-le some).0 c.if-cap-width.false in
    opening g.A.Allocator g.K.Kind c.args.cap c.args.session.now c.push.new.self c.width-width.result c.align.result c.width-width.ensures c.align.ensures
    (omega arith) less c.in_ok-grant.grant c.in_ok-grant.at c.in_ok-grant.ensures
