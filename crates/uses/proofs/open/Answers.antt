use Rattle.uses.proofs.Openings.{opened-answer, opened_law}
use Rattle.uses.proofs.open.Goals as goal

pub returns-in-Ok-clause-answer : goal.returns-in-Ok-clause-answer
returns-in-Ok-clause-answer g c =
    let new = c.new-arena.ensures in
    let w = c.in-Ok.ensures in
    opened-answer g.S.BlockSource c.args.source c.args.cap c.new-arena.result c.with_capacity.new.self (record { is = new.source; new = new.state; opens = w.opens; consulted = w.consulted })

pub returns-in-Ok-clause-law : goal.returns-in-Ok-clause-law
returns-in-Ok-clause-law g c = opened_law g.S.BlockSource c.args.source c.args.cap c.new-arena.result c.with_capacity.new.self (returns-in-Ok-clause-answer g c)
