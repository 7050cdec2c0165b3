-- Each way through a call of the session is a step.
use Rattle.std.proofs.Common.{◌≡◌, ℕ, ◌+◌, ◌^◌, Bool, true, false, cond, List, ◌∷◌, Ok, Err, sym, refl, ap, ◌∙◌, subst, inl, inr, add-one, arith}
use Rattle.std.proofs.lemmas.Bool.{cases_lt, both_ways, cond-true, cond-false}
use Rattle.allocator.specs.Layouts.{Sized, Aligning}
use Rattle.allocator.specs.Faults.{NoLayout}
use Rattle.allocator.specs.Memory.{Memory, Lawful, fits, taken, popped, stored}
use Rattle.allocator.specs.Answers as allocators
use Rattle.allocator.specs.Answers.{Push, Pop, Load, Store}
use Rattle.allocator.specs.declared.fault.Cause.{Cause}
use Rattle.allocator.specs.declared.fault.Fault.{Fault}
use Rattle.allocator.specs.declared.fault.Fault.TheVariants.{Size, Alignment, DoesNotFit, Address}
use Rattle.allocator.specs.declared.layout.Layout.{Layout}
use Rattle.allocator.proofs.Powers.{aligning-from-divides}
use Rattle.session.specs.Ledger.{Span, new_span, Among}
use Rattle.session.specs.Calls.{Answer, push, pop, pop_newest, load, store, done, byte, granted, refused}
use Rattle.session.specs.Steps.{State, new_state, TooMany, IsNewest, Step, refuses, serves, loads, stores, pops, pops_newest, bad_size, bad_align, full, does_not_fit, pop_not_live, pop_not_newest, pop_untaken, pop_newest_untaken, nothing_live, load_not_live, load_outside, load_untaken, store_not_live, store_outside, store_untaken}
use Rattle.session.specs.Records.{NotAmong, Addressed, Unaddressed}
use Rattle.session.specs.declared.fault.Fault as session
use Rattle.session.specs.declared.fault.Fault.TheVariants.{NotNewest, NotLive, Full, Outside, Allocator}
use Rattle.session.proofs.Blocks.{high-untaken, popped-untaken}

-- what an allocator's answer tells of the address
pub accepted : {X : Type 0} (t : Bool) {x y : X} → Ok y ≡ cond t (Ok x) (Err Address) → (t ≡ true) × (x ≡ y)
accepted true e = (refl, cc)
accepted false e = absurd cc

pub declined : {X : Type 0} (t : Bool) (x : X) {f : Fault} → Err f ≡ cond t (Ok x) (Err Address) → (t ≡ false) × (f ≡ Address)
declined true x e = absurd cc
declined false x e = (refl, cc)

-- loads and stores at the address that was found for an offset
module _ (s : State) {grant offset at : ℕ} (lawful : Lawful s.memory) (found : Addressed s.live grant offset at) where
  -- an address past the last number is not taken, so the sum of address and offset may stop there
  pub exact : taken s.memory at ≡ true → at ≡ found.span.at + offset
  exact on = elim (cases_lt (found.span.at + offset) (2 ^ 64)) [
    | inl less ↦ omega (arith, found.is)
    | inr more ↦ absurd (both_ways (taken s.memory at) (high-untaken s.memory at lawful (omega (arith, found.is))) on)
  ]

  untaken : taken s.memory at ≡ false → taken s.memory (found.span.at + offset) ≡ false
  untaken off = elim (cases_lt (found.span.at + offset) (2 ^ 64)) [
    | inl less ↦ let e : at ≡ found.span.at + offset = omega (arith, found.is) in subst (λ x. taken s.memory x ≡ false) e off
    | inr more ↦ high-untaken s.memory (found.span.at + offset) lawful (omega arith)
  ]

  pub load-done : {b : ℕ} → Load s.memory at (Ok b) → Step s (load grant offset) (byte b) s
  load-done rule =
      let (on, value) = accepted (taken s.memory at) rule in
      let on' = subst (λ x. taken s.memory x ≡ true) (exact on) on in
      rw (← found.named, ← value, exact on) (loads found.span offset found.among found.inside on')

  pub load-faulted : {f : Fault} → Load s.memory at (Err f) → Step s (load grant offset) (refused (Allocator f)) s
  load-faulted rule =
      let (off, is) = declined (taken s.memory at) _ rule in
      rw (← found.named, is) (refuses (load_untaken found.span found.among found.inside (untaken off)))

  pub store-done : {v : ℕ} {m' : Memory} → Store s.memory at v (Ok tt) m' → Step s (store grant offset v) done (new_state m' s.live s.given)
  store-done {v} {m'} rule =
      let on = (accepted (taken s.memory at) rule.answer).0 in
      let on' = subst (λ x. taken s.memory x ≡ true) (exact on) on in
      let after : m' ≡ stored s.memory (found.span.at + offset) v = rule.after ∙ cond-true _ _ _ on ∙ ap (λ x. stored s.memory x v) (exact on) in
      rw (← found.named, after) (stores found.span offset v found.among found.inside on')

  pub store-faulted : {v : ℕ} {m' : Memory} {f : Fault} → Store s.memory at v (Err f) m' → Step s (store grant offset v) (refused (Allocator f)) (new_state m' s.live s.given)
  store-faulted {v} {m'} rule =
      let (off, is) = declined (taken s.memory at) _ rule.answer in
      let same : m' ≡ s.memory = rule.after ∙ cond-false _ _ _ off in
      rw (← found.named, is, same) (refuses (store_untaken found.span found.among found.inside (untaken off)))

-- neither where there is no such byte
pub load-unaddressed : (s : State) (grant offset : ℕ) (fault : session.Fault) → Unaddressed s.live grant offset fault → Step s (load grant offset) (refused fault) s
load-unaddressed s grant offset NotLive none = refuses (load_not_live (λ (span, here, e). none span here e))
load-unaddressed s grant offset Outside (span, here, e, far) = subst (λ g. Step s (load g offset) (refused Outside) s) e (refuses (load_outside span here far))
load-unaddressed s grant offset NotNewest none = absurd none
load-unaddressed s grant offset Full none = absurd none
load-unaddressed s grant offset (Allocator fault) none = absurd none

pub store-unaddressed : (s : State) (grant offset v : ℕ) (fault : session.Fault) → Unaddressed s.live grant offset fault → Step s (store grant offset v) (refused fault) s
store-unaddressed s grant offset v NotLive none = refuses (store_not_live (λ (span, here, e). none span here e))
store-unaddressed s grant offset v Outside (span, here, e, far) = subst (λ g. Step s (store g offset v) (refused Outside) s) e (refuses (store_outside span here far))
store-unaddressed s grant offset v NotNewest none = absurd none
store-unaddressed s grant offset v Full none = absurd none
store-unaddressed s grant offset v (Allocator fault) none = absurd none

-- pops
pub pop-dead : (s : State) (grant : ℕ) → NotAmong s.live grant → Step s (pop grant) (refused NotLive) s
pop-dead s grant none = refuses (pop_not_live (λ (span, here, e). none span here e))

pub pop-older : (s : State) (grant : ℕ) (span : Span) → Among span s.live → span.grant ≡ grant → (IsNewest s.live grant → ⊥) → Step s (pop grant) (refused NotNewest) s
pop-older s grant span here e ne = refuses (pop_not_newest (span, here, e) ne)

-- the plain pop, as the allocator answers it
module _ {m m' : Memory} {live older : List Span} {span : Span} {given : ℕ} (newest : live ≡ span ∷ older) where
  pub pop-done : Pop m span.at (Ok tt) m' → Step (new_state m live given) pop_newest done (new_state m' older given)
  pop-done rule = rw rule.after (pops_newest span older newest (accepted (taken m span.at) rule.answer).0)

  pub pop-faulted : {f : Fault} → Pop m span.at (Err f) m' → Step (new_state m live given) pop_newest (refused (Allocator f)) (new_state m' live given)
  pop-faulted rule =
      let (off, is) = declined (taken m span.at) _ rule.answer in
      let same : m' ≡ m = rule.after ∙ popped-untaken m span.at off in
      rw (is, same) (refuses (pop_newest_untaken span older newest off))

-- a pop by the newest span's grant is the plain pop
pub pop-by-grant : {s s' : State} {answer : Answer} → Step s pop_newest answer s' → (span : Span) (older : List Span) → s.live ≡ span ∷ older → (grant : ℕ) → span.grant ≡ grant → Step s (pop grant) answer s'
pop-by-grant {s = s} (refuses (pop_newest_untaken span' older' is off)) span older newest grant e =
    let first : span' ≡ span = cc in
    let eg : span'.grant ≡ grant = ap (λ (x : Span). x.grant) first ∙ e in
    subst (λ g. Step s (pop g) (refused (Allocator Address)) s) eg (refuses (pop_untaken span' older' is off))
pop-by-grant (refuses (nothing_live none)) span older newest grant e = absurd cc
pop-by-grant {s = s} (pops_newest span' older' is there) span older newest grant e =
    let first : span' ≡ span = cc in
    let eg : span'.grant ≡ grant = ap (λ (x : Span). x.grant) first ∙ e in
    subst (λ g. Step s (pop g) done (new_state (popped s.memory span'.at) older' s.given)) eg (pops span' older' is there)

-- pushes
pub push-unlaid : (s : State) (size align : ℕ) (f : Fault) → NoLayout size align f → Step s (push size align) (refused (Allocator f)) s
push-unlaid s size align Size bad = refuses (bad_size bad)
push-unlaid s size align Alignment (sized, bad) = refuses (bad_align sized bad)
push-unlaid s size align (DoesNotFit cause) bad = absurd bad
push-unlaid s size align Address bad = absurd bad

-- an allocator refuses a push only as not fitting, and keeps its memory
pub push-refused : (m m' : Memory) (size align : ℕ) (f : Fault) → Push m size align (Err f) m' → ((cause : Cause) × (f ≡ DoesNotFit cause)) × (m' ≡ m) × (fits m size align ≡ false)
push-refused m m' size align f (allocators.fitted fit answer after) = absurd cc
push-refused m m' size align f (allocators.further fit block answer ends after) = absurd cc
push-refused m m' size align f (allocators.refused fit cause answer after) = ((cause, cc), after, fit)

module _ (s : State) (l : Layout) {size align : ℕ} (es : l.size ≡ size) (ea : l.align ≡ align) where
  sized : Sized l.size
  sized = (l.some, l.small)

  aligning : Aligning l.align
  aligning = aligning-from-divides l.align l.divides

  at-layout : {answer : Answer} {s' : State} → Step s (push l.size l.align) answer s' → Step s (push size align) answer s'
  at-layout step = rw (← es, ← ea) step

  pub push-full : TooMany s → Step s (push size align) (refused Full) s
  push-full all = at-layout (refuses (full sized aligning all))

  module _ (room : TooMany s → ⊥) {m' : Memory} where
    pub push-served : {at : ℕ} → Push s.memory l.size l.align (Ok at) m' →
        Step s (push size align) (granted (s.given + 1) at) (new_state m' (new_span (s.given + 1) at l.size l.align ∷ s.live) (s.given + 1))
    push-served {at} rule =
        at-layout
        (subst (λ n. Step s (push l.size l.align) (granted n at) (new_state m' (new_span n at l.size l.align ∷ s.live) n)) (sym (add-one s.given))
        (serves sized aligning room rule))

    pub push-unserved : {f : Fault} → Push s.memory l.size l.align (Err f) m' → Step s (push size align) (refused (Allocator f)) (new_state m' s.live s.given)
    push-unserved {f} rule =
        let ((cause, is), same, unfit) = push-refused s.memory m' l.size l.align f rule in
        subst (λ x. Step s (push size align) (refused (Allocator f)) (new_state x s.live s.given)) (sym same)
        (rw is (at-layout (refuses (does_not_fit sized aligning room cause (allocators.refused unfit cause refl refl)))))
