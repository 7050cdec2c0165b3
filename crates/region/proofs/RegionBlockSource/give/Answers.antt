use Rattle.std.proofs.Common.{rules, ◌≡◌, ◌==◌, not, length, filter, ap, ◌∙◌, arith}
use Rattle.arrayvec.proofs.ArrayVecLemmas.{filter-from_retain}
use Rattle.region.specs.Places.{chain}
use Rattle.region.specs.Regions.{usable}
use Rattle.region.proofs.Chains.{any-chain, leaves, left-few, left-all, left-fewer, keeps-leaving}
use Rattle.region.proofs.Calls.{gives, misses}
use Rattle.region.proofs.RegionBlockSource.give.Goals as goal

pub returns-then-len-count-clause-rule : goal.returns-then-len-count-clause-rule
returns-then-len-count-clause-rule c =
    let r = c.args.self.now in
    let slots = r.slots.items in
    let is : c.retain.new.self.items ≡ filter (λ s. not (s.base == c.args.base)) slots = filter-from_retain _ _ _ (λ x b f' y called. search rules) _ _ c.retain.ensures.filtered in
    let many = ap length is in
    let lost = left-all (λ s. s.base == c.args.base) slots (grind arith) in
    rw (leaves c.args.base _ _ is) (misses r c.args.base (any-chain (λ p. p.base == c.args.base) slots ∙ lost))

pub invariant_of-self : goal.invariant_of-self
invariant_of-self c =
    let r = c.args.self.now in
    let left = leaves c.args.base _ _ (filter-from_retain _ _ _ (λ x b f' y called. search rules) _ _ c.retain.ensures.filtered) in
    record { apart = rw left (keeps-leaving (usable (length r.bytes.items)) (chain r.slots.items) c.args.base r.apart) }

pub returns-clause-rule : goal.returns-clause-rule
returns-clause-rule c =
    let r = c.args.self.now in
    let slots = r.slots.items in
    let is : c.retain.new.self.items ≡ filter (λ s. not (s.base == c.args.base)) slots = filter-from_retain _ _ _ (λ x b f' y called. search rules) _ _ c.retain.ensures.filtered in
    let many = ap length is in
    let few = left-few (λ s. s.base == c.args.base) slots in
    let found = left-fewer (λ s. s.base == c.args.base) slots (grind arith) in
    rw (leaves c.args.base _ _ is) (gives r c.args.base (any-chain (λ p. p.base == c.args.base) slots ∙ found))
