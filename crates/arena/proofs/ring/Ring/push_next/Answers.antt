-- A ring with one more block is a ring, and has that block first.
use Rattle.std.proofs.Common.{refl, rules}
use Rattle.arena.specs.Rings.{chain}
use Rattle.arena.proofs.Joins.{Relinked, none, some, relinked-chain, linked-on, risen, chain-last}
use Rattle.arena.proofs.ring.Ring.push_next.Goals as goal
use Rattle.arena.proofs.ring.Ring.push_next.Goals.{in-Some, in_default}

pub invariant_of-self : goal.invariant_of-self
invariant_of-self c =
    let r = c.args.self.now in
    let k : Relinked c.len-n.result c.args.self.now.records.items c.match-pop.self.1.0.items = elim c.match-pop.branch [ in-Some w ↦ some _ _ w.in-Some.ensures.items (search rules) | in_default w ↦ none (search rules) (search rules) ] in
    let e = relinked-chain _ _ _ k in
    rw (c.push-2.ensures.items, c.linked_to-2.ensures)
    (record {
      linked = linked-on _ _ _ _ k (search rules) refl r.linked;
      rises = rw (chain-last, e) (risen c.args.block (chain r.records.items) c.requires r.rises);
    })

pub returns : goal.returns
returns c =
    let k : Relinked c.len-n.result c.args.self.now.records.items c.match-pop.self.1.0.items = elim c.match-pop.branch [ in-Some w ↦ some _ _ w.in-Some.ensures.items (search rules) | in_default w ↦ none (search rules) (search rules) ] in
    let e = relinked-chain _ _ _ k in
    rw (c.push-2.ensures.items, c.linked_to-2.ensures, chain-last, e) refl
