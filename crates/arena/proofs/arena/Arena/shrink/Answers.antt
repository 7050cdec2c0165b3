use Rattle.std.proofs.Common.{◌≡◌, List, [], ◌∷◌, sym, ap, subst, rules}
use Rattle.std.proofs.lemmas.List.{nil_from_length}
use Rattle.source.specs.Blocks.{Place}
use Rattle.arena.specs.Rings.{chain, place, before}
use Rattle.arena.specs.Arenas.{blocks_of, Gave, done}
use Rattle.arena.proofs.Joins.{newest-first}
use Rattle.arena.proofs.Sources.{shrunk-kept}
use Rattle.arena.proofs.Steps.{newest-counts}
use Rattle.arena.proofs.arena.Arena.shrink.Goals as goal

pub returns-in_default-clause-gave : goal.returns-in_default-clause-gave
returns-in_default-clause-gave g c =
    let none : blocks_of c.args.self.now.ring ≡ [] = ap chain (nil_from_length c.args.self.now.ring.records.items (search rules)) in
    subst (λ (ps : List Place). Gave g.S.BlockSource.gives c.args.self.now.source (before ps) c.args.self.now.source) (sym none) done

pub invariant_of-self-2 : goal.invariant_of-self-2
invariant_of-self-2 g c =
    let a = c.args.self.now in
    let first : blocks_of c.args.self.now.ring ≡ place c.in-Some.tail ∷ chain c.in-Some.older.now = newest-first c.args.self.now.ring.records.items c.in-Some.older.now c.in-Some.tail (search rules) in
    let older = ap before first in
    record {
      counted = rw c.keep_newest.ensures (newest-counts a.growths (blocks_of a.ring) a.counted);
      kept = rw (c.keep_newest.ensures, c.give_back.ensures.state, sym older) (shrunk-kept (g.S.BlockSource.state a.source) (blocks_of a.ring) a.kept);
    }
