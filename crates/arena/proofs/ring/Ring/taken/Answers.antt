use Rattle.std.proofs.Common.{◌≡◌, ◌+◌, ◌-◌, ◌++◌, ◌∷◌, [], false, sym, ◌∙◌, rules, tests}
use Rattle.std.proofs.lemmas.Iterator.{YieldsList-from_slice}
use Rattle.std.proofs.lemmas.Iterator.Search.{any_from_yields_List}
use Rattle.std.specs.List.{list_any}
use Rattle.allocator.specs.Memory.{spans}
use Rattle.arena.specs.declared.record.BlockRecord.{BlockRecord}
use Rattle.arena.proofs.Joins.{newest-first, taken-any}
use Rattle.arena.proofs.ring.Ring.taken.Goals as goal

pub returns-else-covers : goal.returns-else-covers
returns-else-covers c bs =
    let e : c.args.self.now.records.items ≡ c.in-Some.older.now ++ c.in-Some.newest.now ∷ [] = search rules in
    let off : spans (c.in-Some.newest.now.address + 16) c.args.used c.args.at ≡ false = search rules in
    let older : c.any.result ≡ list_any (λ (b : BlockRecord). spans (b.address + 16) (b.size - 16) c.args.at) c.in-Some.older.now =
    any_from_yields_List _ _ _ _ c.any.ensures.ran (YieldsList-from_slice c.in-Some.older.now (search rules)) (λ x b q k. search (rules, tests)) in
    rw (newest-first c.args.self.now.records.items c.in-Some.older.now c.in-Some.newest.now e, off) (older ∙ sym (taken-any bs c.args.at c.in-Some.older.now))
