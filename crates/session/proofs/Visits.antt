-- A round trip through a session, call by call.
use Rattle.std.proofs.Common.{◌≡◌, ℕ, List, ◌∷◌, Ok, Err, Result, sym, refl, ap, ◌∙◌, subst, inl, inr, arith}
use Rattle.allocator.specs.declared.Allocator.{Ghosts}
use Rattle.session.specs.Ledger.{new_span, Among}
use Rattle.session.specs.Calls.{Event, event, ledger_of, push, pop, load, store, Answer, granted, done, byte, refused}
use Rattle.session.specs.Steps.{State}
use Rattle.session.specs.Sessions.{state, popped, Performs}
use Rattle.session.specs.Laws.{Separation}
use Rattle.session.specs.Runs.{opened, visited}
use Rattle.session.specs.Visits.{Visited, RoundTrip}
use Rattle.session.specs.declared.fault.Fault.{Fault}
use Rattle.session.specs.declared.grant.Grant.{Grant}
use Rattle.session.specs.declared.session.Session.{Session}
use Rattle.session.proofs.Served.{push-refused-for, push-granted, store-answered, pop-answered}

module _ {A : Type 0} {al : Ghosts A} {first s₀ : Session A} {events : List Event} (here : Visited al first events s₀) where
  pub unserved : {s₁ : Session A} {f : Fault} → Performs al s₀ (push 1 1) (refused f) s₁ → (value : ℕ) → RoundTrip al s₀ value (Err f) s₁
  unserved p₁ value =
      let (why, same) = push-refused-for (omega arith, omega arith) ((0, refl), omega arith) p₁.step in
      (elim why [ inl (is, many) ↦ inl is | inr out ↦ inr out ], same)

  module _ {s₁ : Session A} {grant at : ℕ} (p₁ : Performs al s₀ (push 1 1) (granted grant at) s₁) where
    live₁ : (state al s₁).live ≡ new_span grant at 1 1 ∷ (state al s₀).live
    live₁ = (push-granted p₁.step).1

    stores : {s₂ : Session A} {value : ℕ} {answer : Answer} → Performs al s₁ (store grant 0 value) answer s₂ → (answer ≡ done) × ((state al s₂).live ≡ (state al s₁).live)
    stores p₂ =
        let separation = (here.law _ s₁ (visited here.run p₁)).0 in
        let among : Among (new_span grant at 1 1) (state al s₁).live = subst (λ l. Among (new_span grant at 1 1) l) (sym live₁) (inl refl) in
        let (answered, after) = store-answered separation (new_span grant at 1 1) among refl (omega arith) p₂.step in
        (answered, ap (λ (x : State). x.live) after)

    pub stored : {s₂ : Session A} {value : ℕ} {f : Fault} → Performs al s₁ (store grant 0 value) (refused f) s₂ → ⊥
    stored p₂ = let never = (stores p₂).0 in cc

    module _ {s₂ : Session A} {value : ℕ} (p₂ : Performs al s₁ (store grant 0 value) done s₂) where
      separation₂ : Separation (ledger_of (event (store grant 0 value) done ∷ event (push 1 1) (granted grant at) ∷ events)) (state al s₂)
      separation₂ = (here.law _ s₂ (visited (visited here.run p₁) p₂)).0

      reads : {answer : Answer} → Performs al s₂ (load grant 0) answer s₂ → answer ≡ byte value
      reads {answer = answer} p₃ = (separation₂.reads (new_span grant at 1 1) (inl refl) 0 value (omega arith) (inl (refl, refl, refl))).1 answer _ p₃.step

      pub loaded : {f : Fault} → Performs al s₂ (load grant 0) (refused f) s₂ → ⊥
      loaded p₃ = let never = reads p₃ in cc

      pops : {s₃ : Session A} {answer : Answer} → Performs al s₂ (pop grant) answer s₃ → (answer ≡ done) × ((state al s₃).live ≡ (state al s₀).live)
      pops p₄ =
          let newest : (state al s₂).live ≡ new_span grant at 1 1 ∷ (state al s₀).live = (stores p₂).1 ∙ live₁ in
          let (answered, after) = pop-answered separation₂ (new_span grant at 1 1) (state al s₀).live newest refl p₄.step in
          (answered, ap (λ (x : State). x.live) after)

      pub accepted : {s₃ : Session A} (r : Result (Unit {0}) (Grant × Fault)) → Performs al s₂ (pop grant) (popped r) s₃ → r ≡ Ok tt
      accepted (Ok u) p₄ = refl
      accepted (Err e) p₄ = absurd (let never = (pops p₄).0 in cc)

      pub ends : {read : ℕ} → Performs al s₂ (load grant 0) (byte read) s₂ → {s₃ : Session A} {answer : Answer} → Performs al s₂ (pop grant) answer s₃ → RoundTrip al s₀ value (Ok read) s₃
      ends p₃ p₄ =
          let same = reads p₃ in
          (cc, (pops p₄).1, (_, visited (visited (visited (visited opened p₁) p₂) p₃) p₄))
