-- How a call is answered at a moment of a run: what the session does not itself refuse is accepted.
use Rattle.std.proofs.Common.{◌≡◌, ℕ, suc, ◌+◌, ◌<◌, ◌⊎◌, List, ◌∷◌, sym, refl, ap, ◌∙◌, subst, inl, inr, arith}
use Rattle.allocator.specs.Layouts.{Sized, Aligning}
use Rattle.allocator.specs.Memory.{byte_at, popped, stored}
use Rattle.allocator.specs.declared.fault.Cause.{Cause}
use Rattle.allocator.specs.declared.fault.Fault.TheVariants.{DoesNotFit}
use Rattle.session.specs.Ledger.{Span, new_span, Ledger, Among}
use Rattle.session.specs.Calls.{Answer, push, pop, pop_newest, load, store, granted, done, byte, refused}
use Rattle.session.specs.Steps.{State, new_state, TooMany, IsNewest, Step, refuses, serves, pops, pops_newest, loads, stores, bad_size, bad_align, full, does_not_fit, pop_not_live, pop_not_newest, pop_untaken, pop_newest_untaken, nothing_live, load_not_live, load_outside, load_untaken, store_not_live, store_outside, store_untaken}
use Rattle.session.specs.Laws.{Separation}
use Rattle.session.specs.declared.fault.Fault.{Fault}
use Rattle.session.specs.declared.fault.Fault.TheVariants.{Full, Allocator}

-- a push with a layout is refused for want of grants or of memory alone, and changes nothing
pub push-refused-for : {s s' : State} {size align : ℕ} {fault : Fault} → Sized size → Aligning align → Step s (push size align) (refused fault) s' →
    (((fault ≡ Full) × TooMany s) ⊎ ((cause : Cause) × (fault ≡ Allocator (DoesNotFit cause)))) × (s' ≡ s)
push-refused-for sized aligning (refuses (bad_size bad)) = absurd (bad sized)
push-refused-for sized aligning (refuses (bad_align _ bad)) = absurd (bad aligning)
push-refused-for sized aligning (refuses (full _ _ many)) = (inl (refl, many), refl)
push-refused-for sized aligning (refuses (does_not_fit _ _ room cause rule)) = (inr (cause, refl), refl)

-- a push that is served adds the newest span, by the next grant
pub push-granted : {s s' : State} {size align grant at : ℕ} → Step s (push size align) (granted grant at) s' →
    (grant ≡ suc s.given) × (s'.live ≡ new_span grant at size align ∷ s.live) × (s'.given ≡ suc s.given)
push-granted (serves sized aligning room rule) = (refl, refl, refl)

only : {ledger : Ledger} {s : State} → Separation ledger s → (one other : Span) → Among one s.live → Among other s.live → one.grant ≡ other.grant → one ≡ other
only separation one other here there =
    separation.unique one other (subst (λ l. Among one l) (sym separation.recorded) here) (subst (λ l. Among other l) (sym separation.recorded) there)

-- a load inside a live span answers the block's byte there
pub load-answered : {ledger : Ledger} {grant offset : ℕ} {s s' : State} {answer : Answer} → Separation ledger s → (span : Span) → Among span s.live → span.grant ≡ grant → offset < span.size →
    Step s (load grant offset) answer s' → (answer ≡ byte (byte_at s.memory (span.at + offset))) × (s' ≡ s)
load-answered separation span here e less (refuses (load_not_live none)) = absurd (none (span, here, e))
load-answered separation span here e less (refuses (load_outside other there far)) = absurd (omega (arith, ap (λ (x : Span). x.size) (only separation span other here there e)))
load-answered separation span here e less (refuses (load_untaken other there less' off)) = absurd (separation.reached _ _ (refuses (load_untaken other there less' off)))
load-answered {s = s} separation span here e less (loads other offset there less' on) =
    (ap (λ (x : Span). byte (byte_at s.memory (x.at + offset))) (sym (only separation span other here there e)), refl)

-- a store inside a live span is done, and changes its byte alone
pub store-answered : {ledger : Ledger} {grant offset value : ℕ} {s s' : State} {answer : Answer} → Separation ledger s → (span : Span) → Among span s.live → span.grant ≡ grant → offset < span.size →
    Step s (store grant offset value) answer s' → (answer ≡ done) × (s' ≡ new_state (stored s.memory (span.at + offset) value) s.live s.given)
store-answered separation span here e less (refuses (store_not_live none)) = absurd (none (span, here, e))
store-answered separation span here e less (refuses (store_outside other there far)) = absurd (omega (arith, ap (λ (x : Span). x.size) (only separation span other here there e)))
store-answered separation span here e less (refuses (store_untaken {byte = value} other there less' off)) = absurd (separation.reached _ _ (refuses (store_untaken {byte = value} other there less' off)))
store-answered {s = s} separation span here e less (stores other offset value there less' on) =
    (refl, ap (λ (x : Span). new_state (stored s.memory (x.at + offset) value) s.live s.given) (sym (only separation span other here there e)))

-- a pop by the newest grant is done, and gives its span back
pub pop-answered : {ledger : Ledger} {grant : ℕ} {s s' : State} {answer : Answer} → Separation ledger s → (span : Span) (older : List Span) → s.live ≡ span ∷ older → span.grant ≡ grant →
    Step s (pop grant) answer s' → (answer ≡ done) × (s' ≡ new_state (popped s.memory span.at) older s.given)
pop-answered separation span older newest e (refuses (pop_not_live none)) = absurd (none (span, subst (λ l. Among span l) (sym newest) (inl refl), e))
pop-answered {grant = grant} separation span older newest e (refuses (pop_not_newest live none)) = absurd (none (subst (λ l. IsNewest l grant) (sym newest) e))
pop-answered separation span older newest e (refuses (pop_untaken other rest is off)) = absurd (separation.reached _ _ (refuses (pop_untaken other rest is off)))
pop-answered {s = s} separation span older newest e (pops other rest is on) =
    let first : other ≡ span = cc in
    let after : rest ≡ older = cc in
    (refl, ap (λ (x : Span). new_state (popped s.memory x.at) rest s.given) first ∙ ap (λ l. new_state (popped s.memory span.at) l s.given) after)

pub pop-newest-answered : {ledger : Ledger} {s s' : State} {answer : Answer} → Separation ledger s → (span : Span) (older : List Span) → s.live ≡ span ∷ older →
    Step s pop_newest answer s' → (answer ≡ done) × (s' ≡ new_state (popped s.memory span.at) older s.given)
pop-newest-answered separation span older newest (refuses (pop_newest_untaken other rest is off)) = absurd (separation.reached _ _ (refuses (pop_newest_untaken other rest is off)))
pop-newest-answered separation span older newest (refuses (nothing_live none)) = absurd cc
pop-newest-answered {s = s} separation span older newest (pops_newest other rest is on) =
    let first : other ≡ span = cc in
    let after : rest ≡ older = cc in
    (refl, ap (λ (x : Span). new_state (popped s.memory x.at) rest s.given) first ∙ ap (λ l. new_state (popped s.memory span.at) l s.given) after)
