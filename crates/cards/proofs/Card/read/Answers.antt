-- That `read` answers what `parse` found. Assumes nothing.
use Rattle.cards.proofs.Whole.{one-writing}
use Rattle.cards.proofs.Card.read.Goals as goal

pub returns-clause-one : goal.returns-clause-one
returns-clause-one c = one-writing
