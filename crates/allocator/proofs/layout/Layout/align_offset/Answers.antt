use Rattle.std.proofs.Common.{refl}
use Rattle.allocator.proofs.Pads.{least-pad, pad-lt}
use Rattle.allocator.proofs.layout.Layout.align_offset.Goals as goal

pub returns : goal.returns
returns c =
    record {
      value = refl;
      least = least-pad c.args.at c.args.self.now.align c.args.self.now.low;
      bound = pad-lt c.args.at c.args.self.now.align c.args.self.now.low;
    }
