-- The further block is one of the source's, beside the others.
use Rattle.std.proofs.Common.{ℕ, ◌+◌, Err, refl, ap}
use Rattle.std.proofs.lemmas.Result.{err_from_is_err_and}
use Rattle.arena.specs.Powers.{LeastPower}
use Rattle.arena.specs.Views.{idle_of}
use Rattle.allocator.specs.declared.fault.Fault.{Fault}
use Rattle.arena.proofs.Steps.{want, over-extends, over-asked, under-asked, refused-extends, granted-extends, asked-so, not-asked, answered-ok}
use Rattle.arena.proofs.arena.ArenaHandle.grow.Goals as goal

pub returns-then-size-gt67108864 : goal.returns-then-size-gt67108864
returns-then-size-gt67108864 g c =
    let h = c.args.self.now in
    let a = idle_of g.S.BlockSource.state h.arena in
    let least : LeastPower (16 + c.size.result + c.align.result) c.in_ok-least.least = rw c.in_ok-least.ensures.ok_part at c.least_power.ensures in
    let over = c.if-size-gt67108864.true in
    record {
      extends = over-extends a a _ _ _ _ _ _ _ h.used c.requires.opened c.requires.last c.max-size.ensures least c.size.ensures.value c.align.ensures.value over;
      consulted = not-asked (over-asked a a _ _ _ _ _ _ _ h.used c.requires.opened c.requires.last c.max-size.ensures least c.size.ensures.value c.align.ensures.value over) refl;
    }

pub returns-in_err-base : goal.returns-in_err-base
returns-in_err-base g c =
    let h = c.args.self.now in
    let a = idle_of g.S.BlockSource.state h.arena in
    let least : LeastPower (16 + c.size.result + c.align.result) c.in_ok-least.least = rw c.in_ok-least.ensures.ok_part at c.least_power.ensures in
    let p = err_from_is_err_and c.from_residual-in_err-base.result c.from_residual-in_err-base.ensures.1 in
    let under = c.if-size-gt67108864.false in
    let takes = c.in_err-base.ensures.takes in
    rw (p.1, p.2) (record {
      extends = refused-extends a _ _ _ _ _ _ _ _ h.used c.requires.opened c.requires.last c.max-size.ensures least c.size.ensures.value c.align.ensures.value under _ takes;
      consulted = asked-so (under-asked a a _ _ _ _ _ _ _ h.used c.requires.opened c.requires.last c.max-size.ensures least c.size.ensures.value c.align.ensures.value under) (want a a _ _ _ _ _ _ _ h.used c.requires.opened c.requires.last c.max-size.ensures least c.size.ensures.value c.align.ensures.value) (ap Err takes.0) c.in_err-base.ensures.own;
    })

pub returns : goal.returns
returns g c =
    let h = c.args.self.now in
    let a = idle_of g.S.BlockSource.state h.arena in
    let least : LeastPower (16 + c.size.result + c.align.result) c.in_ok-least.least = rw c.in_ok-least.ensures.ok_part at c.least_power.ensures in
    let under = c.if-size-gt67108864.false in
    let takes = c.in_ok-base.ensures.takes in
    record {
      extends = granted-extends a _ _ _ _ _ _ _ _ h.used c.requires.opened c.requires.last c.max-size.ensures least c.size.ensures.value c.align.ensures.value under _ _ _ takes c.align_offset-pad.ensures.value c.size-2.ensures.value;
      consulted = asked-so (under-asked a a _ _ _ _ _ _ _ h.used c.requires.opened c.requires.last c.max-size.ensures least c.size.ensures.value c.align.ensures.value under) (want a a _ _ _ _ _ _ _ h.used c.requires.opened c.requires.last c.max-size.ensures least c.size.ensures.value c.align.ensures.value) (answered-ok {X = ℕ} Fault 0 a _ _ _ takes) c.in_ok-base.ensures.own;
    }
