-- Each call keeps the statistics of a tracker in step with the ledger.
use Rattle.std.proofs.Common.{◌≡◌, ℕ, suc, ◌+◌, ◌-◌, ◌*◌, ◌<◌, ◌≤◌, List, [], ◌∷◌, length, sym, refl, ap, ◌∙◌, subst, ap₂, inl, inr, mul-le-mul, arith}
use Rattle.std.proofs.lemmas.Bool.{cases_lt}
use Rattle.allocator.specs.Memory.{Memory}
use Rattle.allocator.specs.Stats.{unused, counted, discounted}
use Rattle.allocator.specs.declared.Allocator.{Ghosts}
use Rattle.allocator.specs.declared.AllocationStats.{AllocationStats}
use Rattle.allocator.specs.declared.AllocationTracker.{AllocationTracker}
use Rattle.allocator.specs.declared.fault.Fault.TheVariants.{Address}
use Rattle.session.specs.Ledger.{Span, new_span, Ledger, adds, removes, notes, fed, bytes, empty, all_but_newest}
use Rattle.session.specs.Calls.{Call, Answer, refused, entry, Event, ledger_of}
use Rattle.session.specs.Steps.{State, fresh, Step, refuses, serves, pops, pops_newest, loads, stores}
use Rattle.session.specs.Sessions.{state, Own, OwnPopped}
use Rattle.session.specs.Laws.{Each}
use Rattle.session.specs.Runs.{Run, opened, visited}
use Rattle.session.specs.Statistics.{tracked, Counts, StatisticsLaw}
use Rattle.session.specs.declared.fault.Fault.TheVariants.{Allocator}
use Rattle.session.specs.declared.session.Session.{Session}
use Rattle.session.proofs.Traces.{trace_law}
use Rattle.session.proofs.Owns.{refusal-own}
use Rattle.session.proofs.Laws.{run-trace}

abbrev Light : Span → Type 0
Light span = span.size ≤ 16777216

weight : (live : List Span) → Each Light live → bytes live ≤ length live * 16777216
weight [] tt = omega arith
weight (span ∷ live) (light, rest) = omega (arith, weight live rest)

-- the statistics with what bounds them: no number comes near its limit
record Kept (stats : AllocationStats) (ledger : Ledger) (live : List Span) : Type 0 where
  recorded : ledger.live ≡ live
  few : length live ≤ 64
  light : Each Light live
  low : ledger.peak_bytes ≤ 1073741824
  rare : ledger.peak_spans ≤ 64
  small : ledger.largest ≤ 4096
  now_bytes : stats.bytes_allocated ≡ bytes live
  now_spans : stats.allocations ≡ length live
  peak_bytes : stats.max_bytes_allocated ≡ ledger.peak_bytes
  peak_spans : stats.max_allocations ≡ ledger.peak_spans
  largest : stats.max_alignment ≡ ledger.largest

opening : Kept unused empty []
opening = record {
  recorded = refl;
  few = omega arith;
  light = tt;
  low = omega arith;
  rare = omega arith;
  small = omega arith;
  now_bytes = refl;
  now_spans = refl;
  peak_bytes = refl;
  peak_spans = refl;
  largest = refl;
}

module _ (stats : AllocationStats) (ledger : Ledger) (live : List Span) (kept : Kept stats ledger live) where
  served : (span : Span) → length live < 64 → span.size ≤ 16777216 → span.align ≤ 4096 → Kept (counted stats span.size span.align) (fed ledger (adds span)) (span ∷ live)
  served span less size align =
      let here : bytes ledger.live ≡ bytes live = ap bytes kept.recorded in
      let many : length ledger.live ≡ length live = ap length kept.recorded in
      let b = kept.now_bytes in
      let n = kept.now_spans in
      let all = weight live kept.light in
      let low = kept.low in
      let rare = kept.rare in
      let small = kept.small in
      let pb = kept.peak_bytes in
      let ps = kept.peak_spans in
      let pl = kept.largest in
      record {
        recorded = ap (λ l. span ∷ l) kept.recorded;
        few = omega arith;
        light = (size, kept.light);
        low = omega arith;
        rare = omega arith;
        small = omega arith;
        now_bytes = omega arith;
        now_spans = omega arith;
        peak_bytes = omega arith;
        peak_spans = omega arith;
        largest = omega arith;
      }

  ended : (span : Span) (older : List Span) → live ≡ span ∷ older → Kept (discounted stats span.size) (fed ledger removes) older
  ended span older newest =
      let b : stats.bytes_allocated ≡ span.size + bytes older = kept.now_bytes ∙ ap bytes newest in
      let n : stats.allocations ≡ suc (length older) = kept.now_spans ∙ ap length newest in
      let few : suc (length older) ≤ 64 = omega (arith, kept.few, ap length newest) in
      record {
        recorded = ap all_but_newest (kept.recorded ∙ newest);
        few = omega arith;
        light = (subst (Each Light) newest kept.light).1;
        low = kept.low;
        rare = kept.rare;
        small = kept.small;
        now_bytes = omega arith;
        now_spans = omega arith;
        peak_bytes = kept.peak_bytes;
        peak_spans = kept.peak_spans;
        largest = kept.largest;
      }

  stored : (grant offset value : ℕ) → Kept stats (fed ledger (notes (record { grant = grant; offset = offset; byte = value }))) live
  stored grant offset value = record {
    recorded = kept.recorded;
    few = kept.few;
    light = kept.light;
    low = kept.low;
    rare = kept.rare;
    small = kept.small;
    now_bytes = kept.now_bytes;
    now_spans = kept.now_spans;
    peak_bytes = kept.peak_bytes;
    peak_spans = kept.peak_spans;
    largest = kept.largest;
  }

module _ {T : Type 0} (al : Ghosts T) (ledger : Ledger) (t t' : AllocationTracker T) where
  step-kept : {s s' : State} {call : Call} {answer : Answer} → ((after : State) → Step s call (refused (Allocator Address)) after → ⊥) → Kept t.stats ledger s.live → Step s call answer s' →
      Own (tracked al) t t' s.live call answer → Kept t'.stats (fed ledger (entry call answer)) s'.live
  step-kept {s = s} {call = call} reached kept (refuses {fault = fault} why) own =
      let same : t'.stats ≡ t.stats = elim (refusal-own (tracked al) t t' s.live s call fault reached why own) [
        | inl is ↦ ap (λ (x : AllocationTracker T). x.stats) is
        | inr (size, align, cause, rule) ↦ rule.1
      ] in
      subst (λ x. Kept x ledger s.live) (sym same) kept
  step-kept {s = s} reached kept (serves {size = size} {align = align} {at = at} sized aligning room rule) own =
      let span : Span = new_span (suc s.given) at size align in
      let less : length s.live < 64 = elim (cases_lt (length s.live) 64) [ inl h ↦ h | inr h ↦ absurd (room (inl h)) ] in
      subst (λ x. Kept x (fed ledger (adds span)) (span ∷ s.live)) (sym own.1)
      (served t.stats ledger s.live kept span less sized.1 aligning.1)
  step-kept {s = s} reached kept (pops span older newest there) own =
      subst (λ x. Kept x (fed ledger removes) older) (sym (subst (λ l. OwnPopped (tracked al) t t' l) newest own).1)
      (ended t.stats ledger s.live kept span older newest)
  step-kept {s = s} reached kept (pops_newest span older newest there) own =
      subst (λ x. Kept x (fed ledger removes) older) (sym (subst (λ l. OwnPopped (tracked al) t t' l) newest own).1)
      (ended t.stats ledger s.live kept span older newest)
  step-kept {s = s} reached kept (loads span offset here less there) own =
      subst (λ x. Kept x ledger s.live) (sym (ap (λ (x : AllocationTracker T). x.stats) own)) kept
  step-kept {s = s} reached kept (stores span offset value here less there) own =
      subst (λ x. Kept x (fed ledger (notes (record { grant = span.grant; offset = offset; byte = value }))) s.live) (sym own.3.1)
      (stored t.stats ledger s.live kept span.grant offset value)

module _ {T : Type 0} (al : Ghosts T) (first : Session (AllocationTracker T)) (m : Memory) (new : state (tracked al) first ≡ fresh m)
    (blank : first.inner.stats ≡ unused) where
  run-kept : {events : List Event} {s : Session (AllocationTracker T)} → Run (tracked al) first events s → Kept s.inner.stats (ledger_of events) (state (tracked al) s).live
  run-kept opened = subst (λ x. Kept x empty (state (tracked al) first).live) (sym blank) (subst (λ (x : State). Kept unused empty x.live) (sym new) opening)
  run-kept (visited {earlier = earlier} {s = s} {s' = s'} {call = call} run performs) =
      let stand = (trace_law _ _ _ (run-trace (tracked al) first m new run)).0 in
      step-kept al (ledger_of earlier) s.inner s'.inner (λ after step. stand.reached call after step) (run-kept run) performs.step performs.own

counts : (stats : AllocationStats) (ledger : Ledger) (live : List Span) → Kept stats ledger live → Counts stats ledger
counts stats ledger live kept =
    let times : stats.max_allocations * (stats.max_alignment - 1) ≡ ledger.peak_spans * (ledger.largest - 1) =
    ap₂ (λ n k. n * (k - 1)) kept.peak_spans kept.largest in
    let aligns : ledger.largest - 1 ≤ 4096 = omega (arith, kept.small) in
    let bound : ledger.peak_spans * (ledger.largest - 1) ≤ 64 * 4096 = mul-le-mul kept.rare aligns in
    let low = kept.low in
    let same = kept.peak_bytes in
    record {
      live_bytes = kept.now_bytes ∙ ap bytes (sym kept.recorded);
      live_spans = kept.now_spans ∙ ap length (sym kept.recorded);
      peak_bytes = kept.peak_bytes;
      peak_spans = kept.peak_spans;
      largest = kept.largest;
      capacity = omega arith;
    }

pub statistics_law : {T : Type 0} (al : Ghosts T) (first : Session (AllocationTracker T)) (m : Memory) → state (tracked al) first ≡ fresh m → first.inner.stats ≡ unused → StatisticsLaw al first
statistics_law al first m new blank events s run = counts s.inner.stats (ledger_of events) _ (run-kept al first m new blank run)
