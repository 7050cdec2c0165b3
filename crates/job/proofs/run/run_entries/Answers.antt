use Rattle.std.proofs.Common.{◌+◌, [], get_or, vec_items, refl, arith}
use Rattle.session.specs.Runs.{opened}
use Rattle.cards.specs.declared.Entry.{Entry}
use Rattle.cards.specs.declared.Letter.TheVariants.{Byte}
use Rattle.job.specs.declared.listing.Line.{Line}
use Rattle.job.specs.Reports.{none}
use Rattle.job.proofs.Lines.{reported-more}
use Rattle.job.proofs.run.run_entries.Goals as goal

pub loop-i-init : goal.loop-i-init
loop-i-init g c =
    let made = c.in_ok-lines.ensures in
    (rw made.items (record { events = []; listed = none; run = opened }), made.len, omega (arith, made.capacity))

pub loop-i-preserved : goal.loop-i-preserved
loop-i-preserved g c =
    let entries = c.args.entries.now in
    let i = c.loop-i.i in
    let d : Entry = record { letter = Byte; size = 0 } in
    let line : Line = record { number = i + 1; letter = (get_or entries i d).letter; answer = c.step-answer.result } in
    let more = reported-more g.A.Allocator c.args.session.now c.loop-i.session c.step-answer.new.session entries (vec_items c.loop-i.lines) i d line
    c.loop-i-test.true c.loop-i.invariant.0 c.step-answer.ensures refl refl in (
      rw c.push_reserved.ensures.items more,
      omega (arith, c.push_reserved.ensures.len, c.loop-i.invariant.1),
      omega (arith, c.push_reserved.ensures.capacity, c.loop-i.invariant.2),
    )
