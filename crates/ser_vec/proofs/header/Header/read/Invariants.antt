-- After j turns the buffer begins with the first j bytes of the element.
use Rattle.ser_vec.specs.Elements.{Room}
use Rattle.ser_vec.proofs.Loads.{Read}
use Rattle.ser_vec.proofs.header.Header.read.Given as goal

abbrev pub invariant-loop-j : goal.invariant-loop-j
invariant-loop-j g l = Room g.A.Allocator l.session l.self.grant.number l.self.at l.offset g.K.Kind.wide → Read g.A.Allocator g.K.Kind l.session l.self.grant.number l.self.at l.offset l.j l.byte-items
