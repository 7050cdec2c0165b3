use Rattle.std.proofs.Common.{◌+◌, ◌∙◌, Err, sym, ap, arith}
use Rattle.std.proofs.lemmas.Result.{err_from_is_err_and}
use Rattle.arena.specs.Powers.{LeastPower}
use Rattle.arena.specs.Views.{idle_of}
use Rattle.arena.specs.declared.fault.ArenaFault.{ArenaFault}
use Rattle.arena.proofs.Table.{least-is, least-small}
use Rattle.arena.proofs.Steps.{opening-asks, opens-refused, opens-granted, asked-so, answered-ok}
use Rattle.arena.proofs.arena.Arena.with_capacity.Goals as goal

pub take-requires-clause-small : goal.take-requires-clause-small
take-requires-clause-small g c =
    let least : LeastPower (c.args.cap + 16) c.in_ok-size.size = rw c.in_ok-size.ensures.ok_part at c.least_power.ensures in
    least-small (c.args.cap + 16) c.in_ok-size.size least (omega arith)

pub returns-in_err-take : goal.returns-in_err-take
returns-in_err-take g c =
    let a = idle_of g.S.BlockSource.state c.args.self.now in
    let least : LeastPower (c.args.cap + 16) c.in_ok-size.size = rw c.in_ok-size.ensures.ok_part at c.least_power.ensures in
    let empty = sym c.opened.ensures ∙ c.if-opened.false in
    let p = err_from_is_err_and c.from_residual-in_err-take.result c.from_residual-in_err-take.ensures.1 in
    let takes = c.in_err-take.ensures.takes in
    rw (p.1, p.2) (record {
      opens = opens-refused a _ c.args.cap c.in_ok-size.size empty (omega arith) least _ takes;
      consulted = asked-so (opening-asks a a c.args.cap c.in_ok-size.size empty (omega arith) least) (least-is _ _ least) (ap Err takes.0) c.in_err-take.ensures.own;
    })

pub returns : goal.returns
returns g c =
    let a = idle_of g.S.BlockSource.state c.args.self.now in
    let least : LeastPower (c.args.cap + 16) c.in_ok-size.size = rw c.in_ok-size.ensures.ok_part at c.least_power.ensures in
    let empty = sym c.opened.ensures ∙ c.if-opened.false in
    let takes = c.in_ok-take.ensures.takes in
    record {
      opens = opens-granted a _ c.args.cap c.in_ok-size.size empty (omega arith) least _ takes;
      consulted = asked-so (opening-asks a a c.args.cap c.in_ok-size.size empty (omega arith) least) (least-is _ _ least) (answered-ok ArenaFault (tt {0}) a _ c.in_ok-size.size _ takes) c.in_ok-take.ensures.own;
    }
