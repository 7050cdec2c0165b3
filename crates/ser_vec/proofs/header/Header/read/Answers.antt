-- Each turn loads the next byte of the element.
use Rattle.std.proofs.Common.{◌*◌, ◌<◌, length, subst, arith}
use Rattle.std.proofs.lemmas.Grind.{common_steps}
use Rattle.ser_vec.specs.Elements.{Room, Reads, Loaded}
use Rattle.ser_vec.proofs.Stores.{failed}
use Rattle.ser_vec.proofs.Loads.{read-none, read-more, read-cut, read-all}
use Rattle.ser_vec.proofs.header.Header.read.Goals as goal

pub loop-j-init : goal.loop-j-init
loop-j-init g c room = read-none g.A.Allocator g.K.Kind _ _ _ _ _

pub loop-j-preserved : goal.loop-j-preserved
loop-j-preserved g c room =
    let n = g.met.K.Kind.narrow in
    let less : c.loop-j.j < length c.loop-j.byte-items = omega arith in
    let less' : c.loop-j.j < g.K.Kind.wide = grind (arith, common_steps, n) in
    read-more g.A.Allocator g.K.Kind c.args.session.now _ _ _ room c.loop-j.j less' c.loop-j.byte-items (c.loop-j.invariant room) c.in_ok-byte.field-0 less c.in_ok-byte.ensures

pub returns : goal.returns
returns g c =
    let h = c.args.self.now in
    let n = g.met.K.Kind.narrow in
    subst (λ w. Room g.A.Allocator c.args.session.now h.grant.number h.at (c.args.index * w) g.K.Kind.wide → Loaded g.A.Allocator c.args.session.now h.grant.number h.at (c.args.index * w) g.K.Kind c.unpack.result) c.width.ensures
    (λ room. read-all g.A.Allocator g.K.Kind c.args.session.now _ _ _ c.loop-j.j c.loop-j.byte-items (grind (arith, common_steps, n)) (omega arith) c.unpack.result (grind (arith, common_steps, n)) (c.loop-j.invariant room))

pub returns-in_err-byte : goal.returns-in_err-byte
returns-in_err-byte g c =
    let h = c.args.self.now in
    let r = c.from_residual.result in
    let n = g.met.K.Kind.narrow in
    let less : c.loop-j.j < g.K.Kind.wide = grind (arith, common_steps, n) in
    subst (λ w. Room g.A.Allocator c.args.session.now h.grant.number h.at (c.args.index * w) g.K.Kind.wide → Reads g.A.Allocator g.K.Kind c.args.session.now h.grant.number h.at (c.args.index * w) r) c.width.ensures
    (λ room. read-cut g.A.Allocator g.K.Kind c.args.session.now _ _ _ room c.loop-j.j less c.loop-j.byte-items (c.loop-j.invariant room) (failed r c.from_residual.ensures.1) c.in_err-byte.ensures)
