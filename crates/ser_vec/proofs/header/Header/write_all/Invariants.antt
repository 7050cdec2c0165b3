-- After i turns the packings of the first i elements stand in the span.
use Rattle.std.proofs.Common.{◌*◌, length}
use Rattle.ser_vec.specs.Elements.{packings, Room, Stored}
use Rattle.ser_vec.proofs.header.Header.write_all.Given as goal

abbrev pub invariant-loop-i : goal.invariant-loop-i
invariant-loop-i g l =
    let w = g.K.Kind.wide in
    Room g.A.Allocator l.initial.session l.self.grant.number l.self.at (l.index * w) (length l.xs * w) →
    Stored g.A.Allocator l.initial.session l.self.grant.number l.self.at (l.index * w) (packings g.K.Kind l.xs) (l.i * w) l.session
