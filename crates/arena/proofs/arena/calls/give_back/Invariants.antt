use Rattle.std.proofs.Common.{◌≡◌}
use Rattle.std.specs.Iterator.Adapters.{rev_source}
use Rattle.std.specs.Slice.Iter.{iter_rest}
use Rattle.arena.specs.Rings.{chain}
use Rattle.arena.specs.Arenas.{given_back, Gave}
use Rattle.arena.proofs.arena.calls.give_back.Given as goal

-- what is left to give back comes to the whole
abbrev pub invariant-loop-record : goal.invariant-loop-record
invariant-loop-record g l =
    record {
      own : (t : _) → Gave g.S.BlockSource.gives l.source (chain (iter_rest (rev_source l.record-iterator))) t → Gave g.S.BlockSource.gives l.fn.source (chain l.records) t;
      state : given_back (g.S.BlockSource.state l.source) (chain (iter_rest (rev_source l.record-iterator))) ≡ given_back (g.S.BlockSource.state l.fn.source) (chain l.records);
    }
