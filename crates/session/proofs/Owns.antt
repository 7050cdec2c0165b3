-- What the allocator's own rules say of each way through a call.
use Rattle.std.proofs.Common.{◌≡◌, ℕ, ◌⊎◌, List, Err, sym, refl, ap, subst, inl, inr}
use Rattle.allocator.specs.Faults.{NoLayout}
use Rattle.allocator.specs.declared.Allocator.{Ghosts}
use Rattle.allocator.specs.declared.fault.Cause.{Cause}
use Rattle.allocator.specs.declared.fault.Fault.{Fault}
use Rattle.allocator.specs.declared.fault.Fault.TheVariants.{Size, Alignment, DoesNotFit, Address}
use Rattle.session.specs.Ledger.{Span}
use Rattle.session.specs.Calls.{Call, push, pop, pop_newest, load, store, refused}
use Rattle.session.specs.Steps.{State, Refuses, Step, refuses}
use Rattle.session.specs.Sessions.{OwnFault, OwnUnserved, Own}
use Rattle.session.specs.declared.fault.Fault as session
use Rattle.session.specs.declared.fault.Fault.TheVariants.{NotNewest, NotLive, Full, Outside, Allocator}

pub own-unserved : {A : Type 0} (al : Ghosts A) {a a' : A} {size align : ℕ} (f : Fault) → (cause : Cause) × (f ≡ DoesNotFit cause) → al.pushes a size align (Err f) a' → OwnFault al a a' size align f
own-unserved al {a} {a'} {size} {align} f (cause, is) own =
    subst (λ x. OwnFault al a a' size align x) (sym is) (subst (λ x. al.pushes a size align (Err x) a') is own)

pub own-unlaid : {A : Type 0} (al : Ghosts A) (a : A) (size align : ℕ) (f : Fault) → NoLayout size align f → OwnFault al a a size align f
own-unlaid al a size align Size bad = refl
own-unlaid al a size align Alignment bad = refl
own-unlaid al a size align (DoesNotFit cause) bad = absurd bad
own-unlaid al a size align Address bad = absurd bad

-- an allocator refuses an address only as such
pub own-untaken : {A : Type 0} (a a' : A) (f : Fault) → f ≡ Address → (Allocator f ≡ Allocator Address → ⊥) → a' ≡ a
own-untaken a a' f is ne = absurd (ne (ap Allocator is))

-- A refused call leaves the allocator as it was, or is a push of which its own rules speak.
module _ {A : Type 0} (al : Ghosts A) (a a' : A) (live : List Span) where
  abbrev Refusal : Type 0
  Refusal = (a' ≡ a) ⊎ ((size : ℕ) × (align : ℕ) × (cause : Cause) × al.pushes a size align (Err (DoesNotFit cause)) a')

  unserved-own : (size align : ℕ) (fault : session.Fault) → OwnUnserved al a a' size align fault → Refusal
  unserved-own size align (Allocator Size) own = inl own
  unserved-own size align (Allocator Alignment) own = inl own
  unserved-own size align (Allocator (DoesNotFit cause)) own = inr (size, align, cause, own)
  unserved-own size align (Allocator Address) own = absurd own
  unserved-own size align Full own = inl own
  unserved-own size align NotNewest own = absurd own
  unserved-own size align NotLive own = absurd own
  unserved-own size align Outside own = absurd own

  refused-own : (call : Call) (fault : session.Fault) → (fault ≡ Allocator Address → ⊥) → Own al a a' live call (refused fault) → Refusal
  refused-own (push size align) fault ne own = unserved-own size align fault own
  refused-own (pop grant) fault ne own = inl (own ne)
  refused-own pop_newest fault ne own = inl (own ne)
  refused-own (load grant offset) fault ne own = inl own
  refused-own (store grant offset value) fault ne own = inl (own ne)

  -- no run comes to a refusal of an address
  pub refusal-own : (s : State) (call : Call) (fault : session.Fault) → ((after : State) → Step s call (refused (Allocator Address)) after → ⊥) → Refuses s call fault →
      Own al a a' live call (refused fault) → Refusal
  refusal-own s call fault reached why own = refused-own call fault (λ e. reached s (subst (λ f. Step s call (refused f) s) e (refuses why))) own
