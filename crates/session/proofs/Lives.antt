-- The blocks of an arena are bounded at each moment of its life.
use Rattle.std.proofs.Common.{◌≡◌, ℕ, zero, suc, ◌+◌, ◌-◌, ◌*◌, ◌^◌, ◌<◌, ◌≤◌, max, true, ltb, ◌⊎◌, List, [], ◌∷◌, length, Ok, sym, refl, ap, ◌∙◌, subst, inl, inr, mul-le-mul, mul-one, mul-add, arith}
use native.Mathlib.Nat.{two-pow-succ, pow-zero}
use Rattle.std.proofs.lemmas.Bool.{cases_Bool, cases_lt, cond-true, cond-false, lt-ltb}
use Rattle.allocator.specs.Memory.{Block, Memory, Lawful, taken_in, pushed, full, popped, stored}
use Rattle.allocator.specs.Answers as allocators
use Rattle.allocator.specs.Answers.{Push}
use Rattle.session.specs.Ledger.{Ledger, need, need_with}
use Rattle.session.specs.Calls.{Call, push, Answer, Event, event, ledger_of}
use Rattle.session.specs.Steps.{State, fresh, Step, refuses, serves, pops, pops_newest, loads, stores, Trace, started, stepped}
use Rattle.session.specs.Laws.{capacity}
use Rattle.session.specs.Growth.{block_size, newest_size, held, acquired, LeastPower, GrownSize, Life, begins, visits, grows, again, Growth}
use Rattle.session.proofs.Blocks.{length-full, length-written}
use Rattle.session.proofs.Invariant.{capacity-same}
use Rattle.session.proofs.Traces.{run-kept, trace_law}

-- the least power of two is less than double
double : (from power : ℕ) → LeastPower from power → 2 ≤ from → power + 2 ≤ 2 * from
double from power least two = go least.exponent least.is
  where
    go : (k : ℕ) → power ≡ 2 ^ k → power + 2 ≤ 2 * from
    go zero e = omega (arith, least.enough, pow-zero 2)
    go (suc k) e = elim (cases_lt (2 ^ k) from) [
      | inl less ↦ omega (arith, two-pow-succ k)
      | inr le ↦ absurd (omega (arith, least.least k le, two-pow-succ k, least.enough))
    ]

-- a need has room for its last push
need_with-bound : (ledger : Ledger) (size align : ℕ) → size + align ≤ need_with ledger size align + 1
need_with-bound ledger size align =
    let spans : 1 ≤ max ledger.peak_spans (suc (length ledger.live)) = omega arith in
    let aligns : align - 1 ≤ max ledger.largest align - 1 = omega arith in
    omega (arith, mul-le-mul spans aligns)

-- a call that takes no further block leaves the sizes as they were
pub record Same (m m' : Memory) : Type 0 where
  pub count : length m' ≡ length m
  pub last : newest_size m' ≡ newest_size m
  pub total : held m' ≡ held m

unchanged : (m : Memory) → Same m m
unchanged m = record { count = refl; last = refl; total = refl }

full-held : (m : Memory) → held (full m) ≡ held m
full-held [] = refl
full-held (b ∷ older) = refl

pushed-same : (m : Memory) (size align : ℕ) → Same m (pushed m size align)
pushed-same [] size align = unchanged []
pushed-same (b ∷ older) size align = record { count = refl; last = refl; total = refl }

pub popped-same : (m : Memory) (at : ℕ) → Same m (popped m at)
popped-same [] at = unchanged []
popped-same (b ∷ older) at = elim (cases_Bool (taken_in b at)) [
  | inl e ↦ subst (λ x. Same (b ∷ older) (x ∷ older)) (sym (cond-true _ _ _ e)) (record { count = refl; last = refl; total = refl })
  | inr e ↦ subst (λ x. Same (b ∷ older) (x ∷ older)) (sym (cond-false _ _ _ e)) (unchanged (b ∷ older))
]

pub stored-same : (m : Memory) (at v : ℕ) → Same m (stored m at v)
stored-same [] at v = unchanged []
stored-same (b ∷ older) at v =
    let here = length-written b at v in
    let deep = stored-same older at v in
    record { count = omega (arith, deep.count); last = omega arith; total = omega (arith, deep.total) }

pub served-same : (m : Memory) (size align at : ℕ) (after : Memory) → Push m size align (Ok at) after → Same m after ⊎ ((b : Block) × (after ≡ b ∷ full m))
served-same m size align at after (allocators.fitted fit answer is) = inl (subst (λ x. Same m x) (sym is) (pushed-same m size align))
served-same m size align at after (allocators.further unfit block answer ends is) = inr (block, is)
served-same m size align at after (allocators.refused unfit cause answer is) = absurd cc

step-same : {s s' : State} {call : Call} {answer : Answer} → Step s call answer s' → length s'.memory ≡ length s.memory → Same s.memory s'.memory
step-same {s = s} (refuses why) e = unchanged s.memory
step-same {s = s} (serves {size = size} {align = align} {at = at} {after = after} sized aligning room rule) e = elim (served-same s.memory size align at after rule) [
  | inl same ↦ same
  | inr (b, is) ↦ absurd (omega (arith, ap length is, length-full s.memory))
]
step-same {s = s} (pops span older newest there) e = popped-same s.memory span.at
step-same {s = s} (pops_newest span older newest there) e = popped-same s.memory span.at
step-same {s = s} (loads span offset here less there) e = unchanged s.memory
step-same {s = s} (stores span offset value here less there) e = stored-same s.memory (span.at + offset) value

record Inv (first : ℕ) (start : Memory) (events : List Event) (s : State) (growths most : ℕ) : Type 0 where
  run : Trace start events s
  lawful : Lawful s.memory
  whole : newest_size s.memory ≡ capacity start s.memory + 16
  doubled : first * 2 ^ growths ≤ newest_size s.memory
  total : held s.memory + 1 ≤ 2 * newest_size s.memory
  ungrown : growths ≡ 0 → held s.memory ≡ first
  rarely : 0 < growths → first * 2 ^ (growths - 1) < most + 16
  last : 0 < growths → newest_size s.memory ≤ 2 * (most + 16)

whole-same : (start m m' : Memory) → Same m m' → newest_size m ≡ capacity start m + 16 → newest_size m' ≡ capacity start m' + 16
whole-same start [] [] same e = e
whole-same start [] (b ∷ older) same e = absurd (omega (arith, same.count))
whole-same start (b ∷ older) [] same e = absurd (omega (arith, same.count))
whole-same start (b ∷ older) (b' ∷ older') same e =
    let size : length b'.bytes ≡ length b.bytes = omega (arith, same.last) in
    let count : length older' ≡ length older = omega (arith, same.count) in
    omega (arith, capacity-same start b b' older older' size count)

longer : {start : Memory} {events : List Event} {s : State} → Trace start events s → length start ≤ length s.memory
longer run = (run-kept _ run).longer

last-held : (m : Memory) → newest_size m ≤ held m
last-held [] = omega arith
last-held (b ∷ older) = omega arith

-- a use begins
acquired-lawful : (m : Memory) → Lawful m → Lawful (acquired m)
acquired-lawful [] lawful = tt
acquired-lawful (b ∷ older) (mark, end, apart, all, lawful) = (omega arith, end, λ at e. refl, tt, tt)

acquired-inv : (first : ℕ) (m : Memory) (growths most : ℕ) → Lawful m → 0 < newest_size m → first * 2 ^ growths ≤ newest_size m → (growths ≡ 0 → newest_size m ≡ first) →
    (0 < growths → first * 2 ^ (growths - 1) < most + 16) → (0 < growths → newest_size m ≤ 2 * (most + 16)) →
    Inv first (acquired m) [] (fresh (acquired m)) growths most
acquired-inv first [] growths most lawful some doubled ungrown rarely last = absurd (omega arith)
acquired-inv first (b ∷ older) growths most lawful some doubled ungrown rarely last =
    record {
      run = started (acquired-lawful (b ∷ older) lawful);
      lawful = acquired-lawful (b ∷ older) lawful;
      whole = omega arith;
      doubled = doubled;
      total = omega arith;
      ungrown = λ none. omega (arith, ungrown none);
      rarely = rarely;
      last = last;
    }

-- a growth
grown-inv : (first : ℕ) (start : Memory) (earlier : List Event) (s : State) (growths most : ℕ) → Inv first start earlier s growths most →
    (size align : ℕ) (answer : Answer) (s' : State) → Step s (push size align) answer s' → Lawful s'.memory →
    GrownSize (newest_size s.memory) size align (newest_size s'.memory) →
    (b : Block) → s'.memory ≡ b ∷ full s.memory →
    need (ledger_of (event (push size align) answer ∷ earlier)) ≡ need_with (ledger_of earlier) size align →
    Inv first start (event (push size align) answer ∷ earlier) s' (suc growths)
    (max most (need (ledger_of (event (push size align) answer ∷ earlier))))
grown-inv first start earlier s growths most inv size align answer s' step lawful grown b is needs =
    let more : length s.memory < length s'.memory = omega (arith, ap length is, length-full s.memory) in
    let strained : capacity start s.memory < need_with (ledger_of earlier) size align =
    (trace_law start earlier s inv.run).1 size align answer s' step (inr more) in
    let small : newest_size s.memory < need_with (ledger_of earlier) size align + 16 = omega (arith, inv.whole) in
    let power = double (16 + size + align) grown.power grown.large (omega arith) in
    let room = need_with-bound (ledger_of earlier) size align in
    let all : held s'.memory ≡ block_size b + held s.memory = ap held is ∙ ap (λ n. block_size b + n) (full-held s.memory) in
    let new : newest_size s'.memory ≡ block_size b = ap newest_size is in
    record {
      run = stepped inv.run step lawful;
      lawful = lawful;
      whole = subst (λ m. newest_size m ≡ capacity start m + 16) (sym is)
          (let came : ltb (length start) (suc (length (full s.memory))) ≡ true = lt-ltb (length start) (suc (length (full s.memory))) (omega (arith, longer inv.run, length-full s.memory)) in
          let cap : capacity start (b ∷ full s.memory) ≡ length b.bytes = cond-true _ _ _ came in omega (arith, cap));
      doubled = omega (arith, inv.doubled, grown.is, two-pow-succ growths, mul-add first (2 ^ growths) (2 ^ growths), ap (λ x. first * x) (two-pow-succ growths));
      total = omega (arith, inv.total, grown.is);
      ungrown = λ none. absurd (omega arith);
      rarely = λ some. let e : suc growths - 1 ≡ growths = omega arith in
          subst (λ k. first * 2 ^ k < max most (need (ledger_of (event (push size align) answer ∷ earlier))) + 16) (sym e) (omega (arith, inv.doubled));
      last = λ some. omega (arith, grown.is);
    }

grows-inv : (first : ℕ) (start : Memory) (earlier : List Event) (growths most : ℕ) {s s' : State} {size align : ℕ} {answer : Answer} → Inv first start earlier s growths most →
    Step s (push size align) answer s' → Lawful s'.memory → length s.memory < length s'.memory → GrownSize (newest_size s.memory) size align (newest_size s'.memory) →
    Inv first start (event (push size align) answer ∷ earlier) s' (suc growths)
    (max most (need (ledger_of (event (push size align) answer ∷ earlier))))
grows-inv first start earlier growths most inv (refuses why) lawful more grown = absurd (omega arith)
grows-inv first start earlier growths most {s = s} inv (serves {size = size} {align = align} {at = at} {after = after} sized aligning room rule) lawful more grown =
    elim (served-same s.memory size align at after rule) [
      | inl same ↦ absurd (omega (arith, same.count))
      | inr (b, is) ↦ grown-inv first start earlier s growths most inv size align _ _ (serves sized aligning room rule) lawful grown b is refl
    ]

life-inv : {first : ℕ} {start : Memory} {events : List Event} {s : State} {growths most : ℕ} → Life first start events s growths most → Inv first start events s growths most
life-inv {first = first} (begins b is lawful) =
    acquired-inv first (b ∷ []) 0 0 lawful (omega arith) (omega (arith, mul-one first)) (λ none. is) (λ some. absurd (omega arith)) (λ some. absurd (omega arith))
life-inv (visits {start = start} {s = s} {s' = s'} life step lawful count) =
    let inv = life-inv life in
    let same = step-same step count in
    record {
      run = stepped inv.run step lawful;
      lawful = lawful;
      whole = whole-same start s.memory s'.memory same inv.whole;
      doubled = omega (arith, inv.doubled, same.last);
      total = omega (arith, inv.total, same.last, same.total);
      ungrown = λ none. same.total ∙ inv.ungrown none;
      rarely = λ some. omega (arith, inv.rarely some);
      last = λ some. omega (arith, inv.last some, same.last);
    }
life-inv {first = first} (grows {start = start} {earlier = earlier} {growths = growths} {most = most} life step lawful more grown) =
    grows-inv first start earlier growths most (life-inv life) step lawful more grown
life-inv {first = first} (again {s = s} {growths = growths} {most = most} life) =
    let inv = life-inv life in
    acquired-inv first s.memory growths most inv.lawful (omega (arith, inv.whole)) inv.doubled
    (λ none. omega (arith, inv.ungrown none, inv.doubled, ap (λ k. first * 2 ^ k) none ∙ mul-one first, last-held s.memory))
    inv.rarely inv.last

pub life_law : (first : ℕ) (start : Memory) (events : List Event) (s : State) (growths most : ℕ) → Life first start events s growths most →
    Trace start events s × Growth first growths most s.memory
life_law first start events s growths most life =
    let inv = life-inv life in (
      inv.run,
      record {
        ungrown = inv.ungrown;
        rarely = inv.rarely;
        tightly = λ some. omega (arith, inv.last some, inv.total);
      },
    )
