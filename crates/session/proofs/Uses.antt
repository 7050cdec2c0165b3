-- A session over an allocator that grows as an arena does goes on with the arena's life.
use Rattle.std.proofs.Common.{◌≡◌, ℕ, ◌+◌, ◌<◌, max, List, [], ◌∷◌, length, Ok, Err, sym, refl, ap, ◌∙◌, subst, inl, inr, arith}
use Rattle.allocator.specs.Memory.{Memory, Lawful}
use Rattle.allocator.specs.declared.Allocator.{Ghosts}
use Rattle.allocator.specs.declared.fault.Fault.TheVariants.{DoesNotFit, Address}
use Rattle.session.specs.Ledger.{need}
use Rattle.session.specs.Calls.{Call, Answer, refused, Event, event, ledger_of}
use Rattle.session.specs.Steps.{State, Step, refuses, serves, pops, pops_newest, loads, stores}
use Rattle.session.specs.Sessions.{state, Own, OwnPopped}
use Rattle.session.specs.Runs.{Run, opened, visited}
use Rattle.session.specs.Growth.{Life, visits, grows, Grew, GrowsAsArena, largest_need, GrowthLaw}
use Rattle.session.specs.Statistics.{tracked}
use Rattle.session.specs.declared.fault.Fault.TheVariants.{Allocator}
use Rattle.session.specs.declared.session.Session.{Session}
use Rattle.session.proofs.Blocks.{length-full}
use Rattle.session.proofs.Owns.{refusal-own}
use Rattle.session.proofs.Lives.{served-same, popped-same, stored-same, life_law}
use Rattle.session.proofs.Traces.{trace_law}

module _ {A : Type 0} (al : Ghosts A) (growths : A → ℕ) (arena : GrowsAsArena al growths) (first : ℕ) (start : Memory) (earlier : List Event) (most : ℕ) (a a' : A) where
  abbrev After : Call → Answer → State → ℕ → Type 0
  After call answer s' n = Life first start (event call answer ∷ earlier) s' n (max most (need (ledger_of (event call answer ∷ earlier))))

  with-count : {call : Call} {answer : Answer} {s' : State} {n n' : ℕ} → n' ≡ n → After call answer s' n → After call answer s' n'
  with-count {call = call} {answer = answer} {s' = s'} e life = subst (λ n. After call answer s' n) (sym e) life

  life-step : {s s' : State} {call : Call} {answer : Answer} → al.blocks a ≡ s.memory → al.blocks a' ≡ s'.memory → ((after : State) → Step s call (refused (Allocator Address)) after → ⊥) →
      Life first start earlier s (growths a) most → Step s call answer s' → Lawful s'.memory → Own al a a' s.live call answer → After call answer s' (growths a')
  life-step {s = s} {call = call} e e' reached life (refuses {fault = fault} why) lawful own =
      let same : growths a' ≡ growths a = elim (refusal-own al a a' s.live s call fault reached why own) [
        | inl is ↦ ap growths is
        | inr (size, align, cause, rule) ↦ (arena.pushes a a' size align (Err (DoesNotFit cause)) rule).1 (ap length (e' ∙ sym e))
      ] in
      with-count same (visits life (refuses why) lawful refl)
  life-step {s = s} {s' = s'} e e' reached life (serves {size = size} {align = align} {at = at} {after = after} sized aligning room rule) lawful own =
      let grew : Grew s.memory (growths a) size align after (growths a') = subst (λ m. Grew s.memory (growths a) size align m (growths a')) e'
      (subst (λ m. Grew m (growths a) size align (al.blocks a') (growths a')) e (arena.pushes a a' size align (Ok at) own)) in
      elim (served-same s.memory size align at after rule) [
        | inl same ↦ with-count (grew.1 same.count) (visits life (serves sized aligning room rule) lawful same.count)
        | inr (b, is) ↦
            let more : length s.memory < length after = omega (arith, ap length is, length-full s.memory) in
            with-count (grew.0 more).1 (grows life (serves sized aligning room rule) lawful more (grew.0 more).0)
      ]
  life-step {s = s} {s' = s'} e e' reached life (pops span older newest there) lawful own =
      with-count (arena.pops a a' span.at span.size (Ok tt) (subst (λ l. OwnPopped al a a' l) newest own)) (visits life (pops span older newest there) lawful (popped-same s.memory span.at).count)
  life-step {s = s} {s' = s'} e e' reached life (pops_newest span older newest there) lawful own =
      with-count (arena.pops a a' span.at span.size (Ok tt) (subst (λ l. OwnPopped al a a' l) newest own)) (visits life (pops_newest span older newest there) lawful (popped-same s.memory span.at).count)
  life-step {s = s} {s' = s'} e e' reached life (loads span offset here less there) lawful own =
      with-count (ap growths own) (visits life (loads span offset here less there) lawful refl)
  life-step {s = s} {s' = s'} e e' reached life (stores span offset value here less there) lawful own =
      with-count (arena.stores a a' (own.0.at + offset) value (Ok tt) own.3) (visits life (stores span offset value here less there) lawful (stored-same s.memory (span.at + offset) value).count)

module _ {A : Type 0} (al : Ghosts A) (growths : A → ℕ) (arena : GrowsAsArena al growths) (first before : ℕ) (s : Session A)
    (life : Life first (state al s).memory [] (state al s) (growths s.inner) before) where
  lives : {events : List Event} {s' : Session A} → Run al s events s' →
      Life first (state al s).memory events (state al s') (growths s'.inner) (largest_need before events)
  lives opened = life
  lives (visited {earlier = earlier} {s = s1} {s' = s2} {call = call} run performs) =
      let life1 = lives run in
      let stand = (trace_law _ _ _ (life_law first _ earlier _ _ _ life1).0).0 in
      life-step al growths arena first (state al s).memory earlier (largest_need before earlier) s1.inner s2.inner refl refl (λ after step. stand.reached call after step) life1 performs.step
      (al.lawful s2.inner) performs.own

pub growth_law : {A : Type 0} (al : Ghosts A) (s : Session A) → GrowthLaw al s
growth_law al s growths arena first before life events s' run =
    let after = lives al growths arena first before s life run in (after, (life_law first _ events _ _ _ after).1)

-- a tracker grows as the allocator inside does
pub tracked-grows : {T : Type 0} (al : Ghosts T) (growths : T → ℕ) → GrowsAsArena al growths → GrowsAsArena (tracked al) (λ t. growths t.inner)
tracked-grows al growths arena =
    record {
      pushes = λ t t' size align r own. arena.pushes t.inner t'.inner size align r own.0;
      pops = λ t t' at size r own. arena.pops t.inner t'.inner at size r own.0;
      stores = λ t t' at byte r own. arena.stores t.inner t'.inner at byte r own.0;
    }
