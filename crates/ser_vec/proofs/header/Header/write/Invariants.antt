-- After j turns the first j bytes of the packing stand in the span.
use Rattle.std.proofs.Common.{◌*◌, [], ◌∷◌}
use Rattle.ser_vec.specs.Elements.{packings, Room, Stored}
use Rattle.ser_vec.proofs.header.Header.write.Given as goal

abbrev pub invariant-loop-j : goal.invariant-loop-j
invariant-loop-j g l =
    Room g.A.Allocator l.initial.session l.self.grant.number l.self.at l.offset (1 * g.K.Kind.wide) →
    Stored g.A.Allocator l.initial.session l.self.grant.number l.self.at l.offset (packings g.K.Kind (l.x ∷ [])) l.j l.session
