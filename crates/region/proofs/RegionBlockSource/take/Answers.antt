use Rattle.std.proofs.Common.{◌<◌, length, Ok, Err, refl, arith}
use Rattle.source.specs.declared.fault.SourceFault.TheVariants.{NoBlock}
use Rattle.region.specs.Places.{chain}
use Rattle.region.specs.Regions.{usable}
use Rattle.region.proofs.Chains.{chain-push, chain-length, served}
use Rattle.region.proofs.Calls.{chooses, chooses-none, grants}
use Rattle.region.proofs.RegionBlockSource.take.Goals as goal

pub returns-then-is_full-clause-own : goal.returns-then-is_full-clause-own
returns-then-is_full-clause-own c =
    let r = c.args.self.now in
    (chooses r c.args.size (Err NoBlock) (λ less. absurd (let l = chain-length r.slots.items in grind arith)), refl)

pub returns-in_err-base-clause-own : goal.returns-in_err-base-clause-own
returns-in_err-base-clause-own c =
    let r = c.args.self.now in
    let none = rw c.in_err-base.ensures.ok_part at c.lowest.ensures in
    (chooses-none r c.args.size c.from_residual.result c.from_residual.ensures.0 none, refl)

pub invariant_of-self-2 : goal.invariant_of-self-2
invariant_of-self-2 c =
    let r = c.args.self.now in
    let low = rw c.in_ok-base.ensures.ok_part at c.lowest.ensures in
    rw (c.push.ensures.items, chain-push r.slots.items _) (record { apart = served (chain r.slots.items) (usable (length r.bytes.items)) c.args.size c.in_ok-base.base (omega arith) r.apart low })

pub returns-clause-own : goal.returns-clause-own
returns-clause-own c =
    let r = c.args.self.now in
    let low = rw c.in_ok-base.ensures.ok_part at c.lowest.ensures in
    let less : length (chain r.slots.items) < 32 = (let l = chain-length r.slots.items in grind arith) in
    (chooses r c.args.size (Ok c.in_ok-base.base) (less, low), refl)

pub returns-clause-rule : goal.returns-clause-rule
returns-clause-rule c =
    let r = c.args.self.now in
    let low = rw c.in_ok-base.ensures.ok_part at c.lowest.ensures in
    rw (c.push.ensures.items, chain-push r.slots.items _) (grants r c.args.size c.in_ok-base.base (omega arith) (omega arith) low)
