-- Each number of the cue is that of its bytes in the buffer.
use Rattle.std.proofs.Common.{drop, arith}
use Rattle.kind.proofs.Widths.{read_4, read_8, cue_read}
use Rattle.kind.proofs.kinds.CueKind.unpack.Goals as goal

pub returns : goal.returns
returns c =
    let bs = c.args.bytes.now in
    cue_read bs _ _ _ _ _ _ (grind (arith, read_8 bs)) (grind (arith, read_4 (drop 8 bs))) (grind (arith, read_4 (drop 12 bs)))
