-- The bytes of a live span are as they were for as long as no call stores through its grant.
use Rattle.std.proofs.Common.{◌≡◌, ℕ, suc, ◌+◌, ◌<◌, ◌≤◌, List, sym, refl, ap, ◌∙◌, subst, inl, inr, arith}
use Rattle.std.proofs.lemmas.Bool.{cases_eq}
use Rattle.allocator.specs.Memory.{byte_at}
use Rattle.allocator.specs.declared.Allocator.{Ghosts}
use Rattle.session.specs.Ledger.{Span, Among}
use Rattle.session.specs.Calls.{Call, store, Answer, done, Event, ledger_of}
use Rattle.session.specs.Steps.{State, Step, refuses, serves, pops, pops_newest, loads, stores}
use Rattle.session.specs.Sessions.{state}
use Rattle.session.specs.Laws.{InOneBlock}
use Rattle.session.specs.Runs.{Run, opened, visited}
use Rattle.session.specs.Jobs.{Regular, Unstored}
use Rattle.session.specs.declared.session.Session.{Session}
use Rattle.session.proofs.Blocks.{within-from}
use Rattle.session.proofs.Grants.{each-at, numbered-below, separate-at}
use Rattle.session.proofs.Jobs.{regular-after, regular-separation}
use Rattle.session.proofs.Laws.{run-trace}
use Rattle.session.proofs.Traces.{run-kept}

given-rises : {s s' : State} {call : Call} {answer : Answer} → Step s call answer s' → s.given ≤ s'.given
given-rises (refuses why) = omega arith
given-rises (serves sized aligning room rule) = omega arith
given-rises (pops span older newest on) = omega arith
given-rises (pops_newest span older newest on) = omega arith
given-rises (loads span offset here less on) = omega arith
given-rises (stores span offset value here less on) = omega arith

-- a live span of an earlier grant was live before the call
lived : {s s' : State} {call : Call} {answer : Answer} → Step s call answer s' → (span : Span) → span.grant ≤ s.given → Among span s'.live → Among span s.live
lived (refuses why) span old here = here
lived (serves sized aligning room rule) span old (inl e) = absurd (omega (arith, ap (λ (x : Span). x.grant) e))
lived (serves sized aligning room rule) span old (inr here) = here
lived (pops top older newest on) span old here = subst (λ l. Among span l) (sym newest) (inr here)
lived (pops_newest top older newest on) span old here = subst (λ l. Among span l) (sym newest) (inr here)
lived (loads other offset there less on) span old here = here
lived (stores other offset value there less on) span old here = here

-- an accepted store is inside the one span of its grant
store-inside : {s s' : State} {call : Call} {answer : Answer} → Step s call answer s' → (grant offset value : ℕ) → call ≡ store grant offset value → answer ≡ done →
    (span : Span) × Among span s.live × (span.grant ≡ grant) × (offset < span.size)
store-inside (refuses why) grant offset value is_call is_done = absurd cc
store-inside (serves sized aligning room rule) grant offset value is_call is_done = absurd cc
store-inside (pops span older newest on) grant offset value is_call is_done = absurd cc
store-inside (pops_newest span older newest on) grant offset value is_call is_done = absurd cc
store-inside (loads span other here less on) grant offset value is_call is_done = absurd cc
store-inside (stores span other byte here less on) grant offset value is_call is_done =
    let named : span.grant ≡ grant = cc in
    let same : other ≡ offset = cc in
    (span, here, named, subst (λ (n : ℕ). n < span.size) same less)

module _ {A : Type 0} (al : Ghosts A) where
  granted : (s : Session A) (span : Span) → Among span (state al s).live → span.grant ≤ s.given
  granted s span here = omega (arith, numbered-below (s.given + 1) (state al s).live span s.numbered here)

  run-given : {s s' : Session A} {events : List Event} → Run al s events s' → s.given ≤ s'.given
  run-given opened = omega arith
  run-given (visited run performs) = omega (arith, run-given run, given-rises performs.step)

  -- one call leaves the bytes of a live span whose grant it does not store through
  step-lasts : {s : Session A} (s' : Session A) {call : Call} {answer : Answer} → Regular al s → Step (state al s) call answer (state al s') →
      (span : Span) → Among span (state al s).live → ((offset value : ℕ) → call ≡ store span.grant offset value → answer ≡ done → ⊥) →
      (at : ℕ) → span.at ≤ at → at < span.at + span.size → byte_at (state al s').memory at ≡ byte_at (state al s).memory at
  step-lasts {s} s' {call} {answer} regular step span here not at low high =
      let separation = regular-separation al regular in
      let there : Among span (ledger_of regular.events).live = subst (λ l. Among span l) (sym separation.recorded) here in
      let inside = within-from (state al s).memory span at (each-at (InOneBlock (state al s).memory) _ span separation.contained there) low high in
      separation.kept call answer (state al s') step (al.lawful s'.inner) at inside
      (λ (other, offset, value, among, is_call, is_done, is_at).
      elim (cases_eq other.grant span.grant) [
        | inl same ↦ not offset value (is_call ∙ ap (λ g. store g offset value) same) is_done
        | inr differ ↦
            let (holder, held, named, less) = store-inside step other.grant offset value is_call is_done in
            let one : holder ≡ other = separation.unique holder other (subst (λ l. Among holder l) (sym separation.recorded) held) among named in
            let size : holder.size ≡ other.size = ap (λ (x : Span). x.size) one in
            elim (separate-at _ span other separation.separate there among (λ e. differ (sym e))) [ inl before ↦ omega arith | inr after ↦ omega arith ]
      ])

  -- a span that is live before a run and after it has its bytes, if none of the calls stored through its grant
  pub lasting : {s s' : Session A} {events : List Event} → Regular al s → Run al s events s' → (span : Span) → Among span (state al s).live → Among span (state al s').live →
      Unstored span.grant events → (at : ℕ) → span.at ≤ at → at < span.at + span.size → byte_at (state al s').memory at ≡ byte_at (state al s).memory at
  lasting regular opened span here there none at low high = refl
  lasting {s} {s'} regular (visited {s = s₁} run performs) span here there (not, none) at low high =
      let between = regular-after al regular run in
      let old : span.grant ≤ (state al s₁).given = omega (arith, granted s span here, run-given run) in
      let middle : Among span (state al s₁).live = lived performs.step span old there in
      step-lasts s' between performs.step span middle not at low high ∙ lasting regular run span here middle none at low high
