use Rattle.std.proofs.Common.{◌≡◌, List, [], ◌∷◌, sym, ap, ◌∙◌, subst, rules}
use Rattle.std.proofs.lemmas.List.{nil_from_length}
use Rattle.std.specs.Iterator.Adapters.{rev_source}
use Rattle.std.specs.Slice.Iter.{iter_rest}
use Rattle.source.specs.Blocks.{Source, Place}
use Rattle.arena.specs.declared.record.BlockRecord.{BlockRecord}
use Rattle.arena.specs.Rings.{chain, place}
use Rattle.arena.specs.Arenas.{given_back, Gave, done, next}
use Rattle.arena.proofs.Joins.{newest-first}
use Rattle.arena.proofs.arena.calls.give_back.Goals as goal

pub loop-record-init : goal.loop-record-init
loop-record-init g c =
    let e : iter_rest (rev_source c.into_iter-record-iterator.result) ≡ c.args.records.now = search rules in
    record {
      own = λ t given. subst (λ (rs : List BlockRecord). Gave g.S.BlockSource.gives c.args.source.now (chain rs) t) e given;
      state = ap (λ (rs : List BlockRecord). given_back (g.S.BlockSource.state c.args.source.now) (chain rs)) e;
    }

pub loop-record-preserved : goal.loop-record-preserved
loop-record-preserved g c =
    let inv = c.loop-record.invariant in
    let first : chain (iter_rest (rev_source c.loop-record.record-iterator)) ≡ place c.in-Some.record.now ∷ chain (iter_rest (rev_source c.next.new.self)) =
    newest-first (iter_rest (rev_source c.loop-record.record-iterator)) (iter_rest (rev_source c.next.new.self)) c.in-Some.record.now (search rules) in
    record {
      own = λ t rest. inv.own t (subst (λ (ps : List Place). Gave g.S.BlockSource.gives c.loop-record.source ps t) (sym first) (next c.give.ensures.own rest));
      state = ap (λ (x : Source). given_back x (chain (iter_rest (rev_source c.next.new.self)))) c.give.ensures.rule.after ∙ rw first at inv.state;
    }

pub returns : goal.returns
returns g c =
    let inv = c.loop-record.invariant in
    let none : chain (iter_rest (rev_source c.loop-record.record-iterator)) ≡ [] = ap chain (nil_from_length (iter_rest (rev_source c.loop-record.record-iterator)) (search rules)) in
    record {
      own = inv.own c.loop-record.source (subst (λ (ps : List Place). Gave g.S.BlockSource.gives c.loop-record.source ps c.loop-record.source) (sym none) done);
      state = rw none at inv.state;
    }
