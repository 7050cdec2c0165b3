-- A byte past the sample's is one of the length, or of the tag.
use Rattle.std.proofs.Common.{arith}
use Rattle.kind.proofs.Widths.{byte_of_length, byte_of_tag}
use Rattle.kind.proofs.kinds.CueKind.byte.Goals as goal

pub returns-in-0-to-11 : goal.returns-in-0-to-11
returns-in-0-to-11 c = grind (arith, byte_of_length c.args.self.now c.args.i (omega arith) (omega arith))

pub returns-in_default : goal.returns-in_default
returns-in_default c = grind (arith, byte_of_tag c.args.self.now c.args.i (omega arith))
