-- Each turn stores the next byte of the packing.
use Rattle.std.proofs.Common.{◌*◌, ◌<◌, [], ◌∷◌, subst, one-mul, arith}
use Rattle.ser_vec.specs.Elements.{packings, Room, Writes}
use Rattle.ser_vec.proofs.Stores.{failed, stored-none, stored-more, stored-cut, packing-of-one}
use Rattle.ser_vec.proofs.header.Header.write.Goals as goal

pub loop-j-init : goal.loop-j-init
loop-j-init g c room = stored-none g.A.Allocator _ _ _ _ _

pub loop-j-preserved : goal.loop-j-preserved
loop-j-preserved g c room =
    let less : c.loop-j.j < 1 * g.K.Kind.wide = omega (arith, one-mul g.K.Kind.wide) in
    stored-more g.A.Allocator _ _ _ _ _ _ room c.loop-j.j _ less (packing-of-one g.K.Kind c.args.x c.loop-j.j c.byte.ensures) _ _ (c.loop-j.invariant room) c.in_ok-store.ensures

pub returns-in_err-store : goal.returns-in_err-store
returns-in_err-store g c =
    let h = c.args.self.now in
    let r = c.from_residual.result in
    let bs = packings g.K.Kind (c.args.x ∷ []) in
    let less : c.loop-j.j < 1 * g.K.Kind.wide = omega (arith, one-mul g.K.Kind.wide) in
    subst
    (λ w. Room g.A.Allocator c.args.session.now h.grant.number h.at (c.args.index * w) (1 * g.K.Kind.wide) → Writes g.A.Allocator c.args.session.now h.grant.number h.at (c.args.index * w) bs (1 * g.K.Kind.wide) r c.store.new.self)
    c.width.ensures
    (λ room. stored-cut g.A.Allocator _ _ _ _ _ _ room c.loop-j.j _ less (packing-of-one g.K.Kind c.args.x c.loop-j.j c.byte.ensures) _ _ (c.loop-j.invariant room) (failed r c.from_residual.ensures.1) c.in_err-store.ensures)
