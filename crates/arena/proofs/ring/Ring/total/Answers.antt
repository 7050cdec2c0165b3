use Rattle.std.proofs.Common.{◌≡◌, sym, ◌∙◌, rules}
use Rattle.std.specs.List.{sum_by}
use Rattle.arena.specs.declared.record.BlockRecord.{BlockRecord}
use Rattle.arena.proofs.Joins.{total-sum, sum-small}
use Rattle.arena.proofs.ring.Ring.total.Goals as goal

pub sum-requires-clause-fits : goal.sum-requires-clause-fits
sum-requires-clause-fits c =
    let r = c.args.self.now in
    let small = sum-small r.records.items (search rules) in
    search rules

pub returns : goal.returns
returns c =
    let r = c.args.self.now in
    let e : c.sum.result ≡ sum_by (λ (b : BlockRecord). b.size) c.args.self.now.records.items = search rules in
    e ∙ sym (total-sum r.records.items)
