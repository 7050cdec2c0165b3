use Rattle.std.proofs.Common.{Ok, ap, ◌∙◌}
use Rattle.std.proofs.lemmas.List.{get_or_default}
use Rattle.region.proofs.Calls.{loads}
use Rattle.region.proofs.RegionBlockSource.load.Goals as goal

pub returns : goal.returns
returns c =
    let r = c.args.self.now in
    let found = c.in_ok-i.ensures.found in
    ap Ok (c.index.ensures ∙ get_or_default r.bytes.items c.in_ok-i.i _ 0 found.1) ∙ rw found.0 (loads r c.in_ok-i.i (rw found.0 at found.2))
