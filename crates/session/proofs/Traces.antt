-- Separation and need hold at the end of every trace.
use Rattle.std.proofs.Common.{◌≡◌, ℕ, suc, ◌+◌, ◌-◌, ◌*◌, ◌<◌, ◌≤◌, max, true, false, List, [], ◌∷◌, length, Ok, sym, refl, ap, ◌∙◌, subst, inl, inr, mul-le-mul_right, arith}
use Rattle.std.proofs.lemmas.Bool.{both_ways, leb-false}
use Rattle.allocator.specs.Layouts.{pad, Sized, Aligning}
use Rattle.allocator.specs.Memory as memory
use Rattle.allocator.specs.Memory.{Memory, Lawful, fits, pushed, placed, popped, within, taken, byte_at}
use Rattle.allocator.specs.Answers as allocators
use Rattle.allocator.specs.Answers.{Push}
use Rattle.allocator.specs.declared.fault.Cause.{Cause}
use Rattle.allocator.specs.declared.fault.Fault.TheVariants.{DoesNotFit, Address}
use Rattle.allocator.proofs.Powers.{aligning-some}
use Rattle.allocator.proofs.Spans.{within-full, byte_at-full}
use Rattle.session.specs.Ledger.{Span, new_span, Ledger, adds, removes, fed, bytes, Among, LastStored, need_with}
use Rattle.session.specs.Calls.{Call, push, load, Answer, byte, refused, entry, Event, ledger_of}
use Rattle.session.specs.Steps.{State, new_state, Refuses, bad_size, bad_align, full, does_not_fit, pop_untaken, pop_newest_untaken, load_not_live, load_outside, load_untaken, store_untaken, Step, refuses, serves, pops, pops_newest, loads, stores, Trace, started, stepped}
use Rattle.session.specs.Laws.{Each, InOneBlock, AllSeparate, Aligned, StoresTo, capacity, Strained, Separation, Need}
use Rattle.session.specs.declared.fault.Fault.{Fault}
use Rattle.session.specs.declared.fault.Fault.TheVariants.{Allocator}
use Rattle.session.proofs.Rounding.{up}
use Rattle.session.proofs.Blocks.{byte_at-further, byte_at-popped, byte_at-other}
use Rattle.session.proofs.Stack.{Lies, Taken, tight-raised, tight-bound}
use Rattle.session.proofs.Grants.{each-at, each-map, unique}
use Rattle.session.proofs.Invariant.{Inv, opening, fitted, furthered, largest-more, popped-inv, stored-inv, placed-lies, placed-separate, placed-taken}
use Rattle.session.proofs.Steps.{push-refused}

-- each call keeps the invariant
served-kept : (start : Memory) (ledger : Ledger) (s : State) → Inv start ledger s → (size align at : ℕ) (after : Memory) → Sized size → Aligning align →
    Push s.memory size align (Ok at) after → Lawful after →
    Inv start (fed ledger (adds (new_span (suc s.given) at size align))) (new_state after (new_span (suc s.given) at size align ∷ s.live) (suc s.given))
served-kept start ledger s inv size align at after sized aligning (allocators.fitted fit answer is) lawful =
    let same : placed s.memory align ≡ at = cc in
    subst (λ x. Inv start (fed ledger (adds (new_span (suc s.given) x size align))) (new_state after (new_span (suc s.given) x size align ∷ s.live) (suc s.given))) same
    (subst (λ m. Inv start (fed ledger (adds (new_span (suc s.given) (placed s.memory align) size align))) (new_state m (new_span (suc s.given) (placed s.memory align) size align ∷ s.live) (suc s.given))) (sym is)
    (fitted start ledger s.memory s.live s.given inv size align sized aligning fit (subst Lawful is lawful)))
served-kept start ledger s inv size align at after sized aligning (allocators.further unfit block answer ends is) lawful =
    let first : at ≡ block.base + pad block.base align = cc in
    subst (λ m. Inv start (fed ledger (adds (new_span (suc s.given) at size align))) (new_state m (new_span (suc s.given) at size align ∷ s.live) (suc s.given))) (sym is)
    (furthered start ledger s.memory s.live s.given inv size align sized aligning block at first (omega arith) (subst Lawful is lawful))
served-kept start ledger s inv size align at after sized aligning (allocators.refused unfit cause answer is) lawful = absurd cc

pop-kept : (start : Memory) (ledger : Ledger) (s : State) → Inv start ledger s → (span : Span) (older : List Span) → s.live ≡ span ∷ older →
    Lawful (popped s.memory span.at) → Inv start (fed ledger removes) (new_state (popped s.memory span.at) older s.given)
pop-kept start ledger s inv span older newest lawful =
    popped-inv start ledger s.memory span older s.given (subst (λ l. Inv start ledger (new_state s.memory l s.given)) newest inv) lawful

step-kept : (start : Memory) (ledger : Ledger) {s s' : State} {call : Call} {answer : Answer} → Inv start ledger s → Step s call answer s' → Lawful s'.memory →
    Inv start (fed ledger (entry call answer)) s'
step-kept start ledger inv (refuses why) lawful = inv
step-kept start ledger {s = s} inv (serves {size = size} {align = align} {at = at} {after = after} sized aligning room rule) lawful =
    served-kept start ledger s inv size align at after sized aligning rule lawful
step-kept start ledger {s = s} inv (pops span older newest there) lawful = pop-kept start ledger s inv span older newest lawful
step-kept start ledger {s = s} inv (pops_newest span older newest there) lawful = pop-kept start ledger s inv span older newest lawful
step-kept start ledger inv (loads span offset here less there) lawful = inv
step-kept start ledger {s = s} inv (stores span offset value here less there) lawful = stored-inv start ledger s inv span offset value here less lawful

pub run-kept : (start : Memory) {events : List Event} {s : State} → Trace start events s → Inv start (ledger_of events) s
run-kept start (started lawful) = opening start lawful
run-kept start (stepped {earlier = earlier} run step lawful) = step-kept start (ledger_of earlier) (run-kept start run) step lawful

-- a push that does not fit needs more than the capacity
unfit-needs : (start : Memory) (ledger : Ledger) (m : Memory) (live : List Span) (given : ℕ) → Inv start ledger (new_state m live given) → (size align : ℕ) → Sized size → Aligning align →
    fits m size align ≡ false → capacity start m < need_with ledger size align
unfit-needs start ledger [] live given inv size align sized aligning unfit = omega arith
unfit-needs start ledger (b ∷ older) live given inv size align sized aligning unfit =
    let (from, low, room, tight) = inv.places in
    let most : ℕ = max ledger.largest align in
    let hm : Aligning most = largest-more start ledger (b ∷ older) live given inv size align sized aligning in
    let at : ℕ = up (b.base + b.mark) align in
    let bound : at ≤ from + bytes live + suc (length live) * (most - 1) =
    tight-bound (aligning-some most hm) (tight-raised ledger.largest most inv.largest hm (omega arith) align aligning (omega arith) tight) in
    let short = leb-false (pad (b.base + b.mark) align + size) (length b.bytes - b.mark) unfit in
    let spans : suc (length live) ≤ max ledger.peak_spans (suc (length ledger.live)) = omega (arith, ap length inv.agrees) in
    omega (arith, mul-le-mul_right (most - 1) spans, ap bytes inv.agrees, inv.lawful.0)

strained-refused : (s : State) (fault : Fault) → Strained s (refused fault) s → (cause : Cause) × (fault ≡ Allocator (DoesNotFit cause))
strained-refused s fault (inl (cause, is)) = (cause, cc)
strained-refused s fault (inr more) = absurd (omega arith)

pushed-length : (m : Memory) (size align : ℕ) → length (pushed m size align) ≡ length m
pushed-length [] size align = refl
pushed-length (b ∷ older) size align = refl

byte_at-pushed : (m : Memory) (size align at : ℕ) → byte_at (pushed m size align) at ≡ byte_at m at
byte_at-pushed [] size align at = refl
byte_at-pushed (b ∷ older) size align at = refl

further-unfit : (m : Memory) (size align at : ℕ) (after : Memory) → Push m size align (Ok at) after → length m < length after → fits m size align ≡ false
further-unfit m size align at after (allocators.fitted fit answer is) more = absurd (omega (arith, ap length is, pushed-length m size align))
further-unfit m size align at after (allocators.further unfit block answer ends is) more = unfit
further-unfit m size align at after (allocators.refused unfit cause answer is) more = unfit

-- a strained push does not fit in the newest block
strained-unfit : {s s' : State} {answer : Answer} {size align : ℕ} → Step s (push size align) answer s' → Strained s answer s' →
    Sized size × Aligning align × (fits s.memory size align ≡ false)
strained-unfit {s = s} (refuses (bad_size bad)) strained = absurd (let is = (strained-refused s _ strained).1 in cc)
strained-unfit {s = s} (refuses (bad_align sized bad)) strained = absurd (let is = (strained-refused s _ strained).1 in cc)
strained-unfit {s = s} (refuses (full sized aligning all)) strained = absurd (let is = (strained-refused s _ strained).1 in cc)
strained-unfit {s = s} {size = size} {align = align} (refuses (does_not_fit sized aligning room cause rule)) strained =
    (sized, aligning, (push-refused s.memory s.memory size align (DoesNotFit cause) rule).2)
strained-unfit (serves sized aligning room rule) (inl (cause, is)) = absurd cc
strained-unfit {s = s} {size = size} {align = align} (serves {at = at} {after = after} sized aligning room rule) (inr more) =
    (sized, aligning, further-unfit s.memory size align at after rule more)

module _ (start : Memory) (ledger : Ledger) (s : State) (inv : Inv start ledger s) where
  need-holds : Need start ledger s
  need-holds size align answer after step strained =
      let (sized, aligning, unfit) = strained-unfit step strained in
      unfit-needs start ledger s.memory s.live s.given inv size align sized aligning unfit

  lie : Each (Lies s.memory) s.live
  lie = placed-lies start ledger.largest s.memory s.live inv.lawful inv.places

  -- the allocator refuses no byte of a live span
  live-taken : (span : Span) → Among span s.live → (offset : ℕ) → offset < span.size → taken s.memory (span.at + offset) ≡ true
  live-taken span here = each-at (Taken s.memory) s.live span (placed-taken start ledger.largest s.memory s.live inv.lawful inv.places) here

  newest-taken : (span : Span) (older : List Span) → s.live ≡ span ∷ older → taken s.memory span.at ≡ true
  newest-taken span older newest =
      let here : Among span s.live = subst (λ l. Among span l) (sym newest) (inl refl) in
      let some : 0 < span.size = (each-at (Lies s.memory) s.live span lie here).1 in
      let e : span.at + 0 ≡ span.at = omega arith in
      subst (λ x. taken s.memory x ≡ true) e (live-taken span here 0 some)

  one-span : (one other : Span) → Among one s.live → Among other s.live → one.grant ≡ other.grant → one ≡ other
  one-span one other = unique (suc s.given) s.live one other inv.numbered

reached : {start : Memory} {ledger : Ledger} {s : State} {call : Call} → Inv start ledger s → Refuses s call (Allocator Address) → ⊥
reached {start = start} {ledger = ledger} {s = s} inv (pop_untaken span older newest off) = both_ways _ off (newest-taken start ledger s inv span older newest)
reached {start = start} {ledger = ledger} {s = s} inv (pop_newest_untaken span older newest off) = both_ways _ off (newest-taken start ledger s inv span older newest)
reached {start = start} {ledger = ledger} {s = s} inv (load_untaken {offset = offset} span here less off) = both_ways _ off (live-taken start ledger s inv span here offset less)
reached {start = start} {ledger = ledger} {s = s} inv (store_untaken {offset = offset} span here less off) = both_ways _ off (live-taken start ledger s inv span here offset less)

step-reached : {start : Memory} {ledger : Ledger} {s s' : State} {call : Call} → Inv start ledger s → Step s call (refused (Allocator Address)) s' → ⊥
step-reached inv (refuses why) = reached inv why

-- a load of a live span's byte is not refused, and answers what was last stored
load-reads : {start : Memory} {ledger : Ledger} {grant offset : ℕ} {s s' : State} {answer : Answer} → Inv start ledger s → Step s (load grant offset) answer s' →
    (span : Span) → Among span s.live → span.grant ≡ grant → (value : ℕ) → offset < span.size → LastStored ledger.stores span.grant offset value → answer ≡ byte value
load-reads inv (refuses (load_not_live none)) span here e value less last = absurd (none (span, here, e))
load-reads {start = start} {ledger = ledger} {s = s} inv (refuses (load_outside other there far)) span here e value less last =
    absurd (omega (arith, ap (λ (x : Span). x.size) (one-span start ledger s inv span other here there e)))
load-reads inv (refuses (load_untaken other there less' off)) span here e value less last = absurd (reached inv (load_untaken other there less' off))
load-reads {start = start} {ledger = ledger} {s = s} inv (loads other offset there less' on) span here e value less last =
    let same : other.at + offset ≡ span.at + offset = omega (arith, ap (λ (x : Span). x.at) (one-span start ledger s inv span other here there e)) in
    ap (λ x. byte (byte_at s.memory x)) same ∙ ap byte (inv.kept span here offset value less last)

-- no call but a store changes a byte
served-keeps : (m : Memory) (size align at : ℕ) (after : Memory) → Push m size align (Ok at) after → Lawful after → (x : ℕ) → within m x ≡ true → byte_at after x ≡ byte_at m x
served-keeps m size align at after (allocators.fitted fit answer is) lawful x there = ap (λ n. byte_at n x) is ∙ byte_at-pushed m size align x
served-keeps m size align at after (allocators.further unfit block answer ends is) lawful x there =
    ap (λ n. byte_at n x) is ∙ byte_at-further block (memory.full m) x (subst Lawful is lawful).2 (within-full m x ∙ there) ∙ byte_at-full m x
served-keeps m size align at after (allocators.refused unfit cause answer is) lawful x there = ap (λ n. byte_at n x) is

step-keeps : {s s' : State} {call : Call} {answer : Answer} → Step s call answer s' → Lawful s'.memory → (x : ℕ) → within s.memory x ≡ true → (StoresTo s.live call answer x → ⊥) →
    byte_at s'.memory x ≡ byte_at s.memory x
step-keeps (refuses why) lawful x there other = refl
step-keeps {s = s} (serves {size = size} {align = align} {at = at} {after = after} sized aligning room rule) lawful x there other = served-keeps s.memory size align at after rule lawful x there
step-keeps {s = s} (pops span older newest on) lawful x there other = byte_at-popped s.memory span.at x
step-keeps {s = s} (pops_newest span older newest on) lawful x there other = byte_at-popped s.memory span.at x
step-keeps (loads span offset here less on) lawful x there other = refl
step-keeps {s = s} (stores span offset value here less on) lawful x there other =
    byte_at-other s.memory (span.at + offset) value x (λ same. other (span, offset, value, here, refl, refl, same))

pub trace_law : (start : Memory) (events : List Event) (s : State) → Trace start events s → Separation (ledger_of events) s × Need start (ledger_of events) s
trace_law start events s run = (
  record {
    recorded = agrees;
    unique = λ one other here there. one-span start ledger s inv one other (recorded one here) (recorded other there);
    aligned = ledgers (Each Aligned) inv.aligned;
    contained = ledgers (Each (InOneBlock s.memory)) (each-map (Lies s.memory) (InOneBlock s.memory) (λ span lies. lies.0) s.live (lie start ledger s inv));
    separate = ledgers AllSeparate (placed-separate start ledger.largest s.memory s.live inv.lawful inv.places);
    reached = λ call after step. step-reached inv step;
    reads = λ span among offset value less last.
        let here = recorded span among in (
          subst (λ v. Step s (load span.grant offset) (byte v) s) (inv.kept span here offset value less last) (loads span offset here less (live-taken start ledger s inv span here offset less)),
          λ other after step. load-reads inv step span here refl value less last,
        );
    kept = λ call answer after step lawful at there other.
        step-keeps step lawful at there (λ (span, offset, value, here, named, answered, same). other (span, offset, value, subst (λ l. Among span l) (sym inv.agrees) here, named, answered, same));
  },
  need-holds start ledger s inv,
)
  where
    ledger : Ledger
    ledger = ledger_of events

    inv : Inv start (ledger_of events) s
    inv = run-kept start run

    agrees : (ledger_of events).live ≡ s.live
    agrees = inv.agrees

    ledgers : (P : List Span → Type 0) → P s.live → P (ledger_of events).live
    ledgers P = subst P (sym inv.agrees)

    recorded : (span : Span) → Among span (ledger_of events).live → Among span s.live
    recorded span = subst (λ l. Among span l) inv.agrees
