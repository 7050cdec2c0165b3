use Rattle.std.proofs.Common.{tests, rules, ◌≡◌, ◌+◌, ◌%◌, ◌^◌, ◌&&◌, ltb, length, not, true, false, sym, refl, ap, ◌∙◌, inl, inr, arith}
use Rattle.std.proofs.lemmas.Iterator.{YieldsList-from_slice}
use Rattle.std.proofs.lemmas.Iterator.Search.{any_from_yields_List}
use Rattle.std.proofs.lemmas.Bool.{cases_lt, true≢false}
use Rattle.std.specs.List.{list_any}
use Rattle.region.specs.Places.{place, chain, free, cut}
use Rattle.region.specs.Regions.{usable}
use Rattle.region.proofs.Chains.{meets, free-chain, ends-chain}
use Rattle.region.proofs.Region.lowest.Goals as goal

pub returns-then-not-any : goal.returns-then-not-any
returns-then-not-any c =
    let slots = c.args.self.now.slots.items in
    let q = cut c.loop-k.k c.args.size in
    let by_test = any_from_yields_List (λ s. ltb s.base (q.base + q.size) && ltb q.base ((s.base + s.size) % 2 ^ 64)) _ _ c.any.result c.any.ensures.ran (YieldsList-from_slice slots cc) (λ x b q k. search (rules, tests)) in
    let by_call : c.any.result ≡ list_any (λ s. meets (place s) q) slots = by_test ∙ ends-chain (usable (length c.args.self.now.bytes.items)) slots q (omega arith) c.args.self.now.apart in
    let beside : free (chain slots) (cut c.loop-k.k c.args.size) ≡ true = free-chain slots (cut c.loop-k.k c.args.size) ∙ ap not (sym by_call ∙ c.if-not-any.true) in
    (c.loop-k.k, refl, (omega arith, beside), c.loop-k.invariant)

pub loop-k-preserved : goal.loop-k-preserved
loop-k-preserved c j h serves =
    let slots = c.args.self.now.slots.items in
    let q = cut c.loop-k.k c.args.size in
    let by_test = any_from_yields_List (λ s. ltb s.base (q.base + q.size) && ltb q.base ((s.base + s.size) % 2 ^ 64)) _ _ c.any.result c.any.ensures.ran (YieldsList-from_slice slots cc) (λ x b q k. search (rules, tests)) in
    let by_call : c.any.result ≡ list_any (λ s. meets (place s) q) slots = by_test ∙ ends-chain (usable (length c.args.self.now.bytes.items)) slots q (omega arith) c.args.self.now.apart in
    let within : free (chain slots) (cut c.loop-k.k c.args.size) ≡ false = free-chain slots (cut c.loop-k.k c.args.size) ∙ ap not (sym by_call ∙ c.if-not-any.false) in
    elim (cases_lt j c.loop-k.k) [
      | inl below ↦ c.loop-k.invariant j below serves
      | inr here ↦ let e : j ≡ c.loop-k.k = omega arith in true≢false (sym (rw e at serves.1) ∙ within)
    ]
