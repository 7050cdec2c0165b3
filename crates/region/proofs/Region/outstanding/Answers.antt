use Rattle.std.proofs.Common.{tests, rules, ◌≡◌, length, sym, ◌∙◌, arith}
use Rattle.std.proofs.lemmas.Iterator.{YieldsList-from_slice}
use Rattle.std.proofs.lemmas.Iterator.Search.{any_from_yields_List}
use Rattle.allocator.specs.Memory.{spans}
use Rattle.region.specs.Places.{chain, covers}
use Rattle.region.specs.Regions.{usable, within-cuts}
use Rattle.region.proofs.Chains.{any-chain, covered}
use Rattle.region.proofs.Region.outstanding.Goals as goal

pub returns : goal.returns
returns c =
    let r = c.args.self.now in
    let by_call = any_from_yields_List (λ s. spans s.base s.size c.args.at) _ _ c.any.result c.any.ensures.ran (YieldsList-from_slice r.slots.items cc) (λ x b q k. search (rules, tests)) in
    let on : c.any.result ≡ covers (chain r.slots.items) c.args.at = by_call ∙ sym (any-chain (λ p. spans p.base p.size c.args.at) r.slots.items) in
    record {
      answer = on ∙ sym (within-cuts r.bytes.items (chain r.slots.items) c.args.at r.apart);
      bounds = λ yes'. let b = covered (usable (length r.bytes.items)) (chain r.slots.items) c.args.at r.apart (sym on ∙ yes') in (omega arith, omega arith);
    }
