use Rattle.std.proofs.Common.{sym, ap, ◌∙◌}
use Rattle.std.proofs.lemmas.Bool.{cond-true}
use Rattle.source.specs.Blocks.{Source}
use Rattle.arena.specs.Arenas.{blocks_of}
use Rattle.arena.specs.Meaning.{memory_of}
use Rattle.arena.proofs.Sources.{stored-memory}
use Rattle.arena.proofs.arena.calls.ArenaHandleAllocator.store.Goals as goal

pub returns-clause-rule : goal.returns-clause-rule
returns-clause-rule g c =
    let h = c.args.self.now in
    let s = g.S.BlockSource.state h.arena.source in
    let (on, w) = c.in_ok-require_taken.ensures.yes in
    let after = c.in_ok-store.ensures.rule.after ∙ cond-true _ _ _ w.within in
    record {
      answer = sym (cond-true _ _ _ on);
      after =
          rw c.in_ok-store.ensures.ring
          (ap (λ (x : Source). memory_of x.blocks (blocks_of c.args.self.now.arena.ring) c.args.self.now.used) after ∙ (stored-memory s.blocks (blocks_of h.arena.ring) h.used c.args.at c.args.byte ∙ sym (cond-true _ _ _ on)));
    }
