-- What holds at each moment of a trace, and that each call keeps it.
use Rattle.std.proofs.Common.{◌≡◌, ℕ, suc, ◌+◌, ◌-◌, ◌%◌, ◌<◌, ◌≤◌, max, true, false, cond, ltb, ◌≢◌, List, [], ◌∷◌, length, sym, refl, ap, ◌∙◌, subst, ap₂, inl, inr, arith}
use Rattle.std.proofs.lemmas.Bool.{cases_lt, cases_Bool, cases_eq, both_ways, lt-ltb, le-ltb, cond-true, cond-false}
use Rattle.allocator.specs.Layouts as layouts
use Rattle.allocator.specs.Layouts.{pad, Sized, Aligning}
use Rattle.allocator.specs.Memory.{Block, Memory, Lawful, taken_in, within, byte_at, fits, pushed, placed, full, popped, stored, written}
use Rattle.allocator.proofs.Powers.{aligning-some}
use Rattle.allocator.proofs.Pads.{pad-aligns}
use Rattle.allocator.proofs.Spans.{spans-from, taken-inside, within-full, byte_at-full}
use Rattle.session.specs.Ledger.{Span, new_span, Note, Ledger, adds, removes, notes, fed, empty, bytes, all_but_newest, Among, LastStored}
use Rattle.session.specs.Steps.{State, new_state, fresh}
use Rattle.session.specs.Laws.{Aligned, Each, AllSeparate, untaken, capacity}
use Rattle.session.proofs.Rounding.{up, up-above, up-within}
use Rattle.session.proofs.Blocks.{within-from, byte_at-further, length-full, full-in, length-popped, byte_at-popped, length-written, stored-in, length-stored, byte_at-stored, byte_at-other}
use Rattle.session.proofs.Stack.{Lies, Tight, bottom, atop, tight-first, tight-low, tight-raised, tight-moved, tight-lies, tight-separate, Taken, tight-taken}
use Rattle.session.specs.Records.{Numbered}
use Rattle.session.proofs.Grants.{Early, each-at, each-map, numbered-below, numbered-more, unique, separate-at, early-last, early-more}

-- the live spans lie in the newest block from where its untaken part began, or in older ones
abbrev pub Placed : Memory → ℕ → Memory → List Span → Type 0
Placed start most [] live = live ≡ []
Placed start most (b ∷ older) live =
    (from : ℕ) × (b.base ≤ from) × (from + capacity start (b ∷ older) ≡ b.base + length b.bytes) × Tight older from most live (b.base + b.mark)

abbrev pub Kept : Memory → List Note → List Span → Type 0
Kept m log live = (span : Span) → Among span live → (offset value : ℕ) → offset < span.size →
    LastStored log span.grant offset value → byte_at m (span.at + offset) ≡ value

pub record Inv (start : Memory) (ledger : Ledger) (s : State) : Type 0 where
  pub lawful : Lawful s.memory
  pub longer : length start ≤ length s.memory
  pub agrees : ledger.live ≡ s.live
  pub numbered : Numbered (suc s.given) s.live
  pub aligned : Each Aligned s.live
  pub places : Placed start ledger.largest s.memory s.live
  pub early : Early s.given ledger.stores
  pub kept : Kept s.memory ledger.stores s.live
  pub largest : Aligning ledger.largest
  pub most_bytes : bytes s.live ≤ ledger.peak_bytes
  pub most_spans : length s.live ≤ ledger.peak_spans

-- the opening
opening-placed : (m : Memory) → Lawful m → Placed m 1 m []
opening-placed [] lawful = refl
opening-placed (b ∷ older) (mark, end, apart, all, lawful) =
    let whole : capacity (b ∷ older) (b ∷ older) ≡ length b.bytes - b.mark = cond-false _ _ _ (le-ltb (length (b ∷ older)) (length (b ∷ older)) (omega arith)) in
    (b.base + b.mark, omega arith, omega (arith, whole), bottom (omega arith) (up-above _ 1) tt tt)

pub opening : (m : Memory) → Lawful m → Inv m empty (fresh m)
opening m lawful =
    record {
      lawful = lawful;
      longer = omega arith;
      agrees = refl;
      numbered = tt;
      aligned = tt;
      places = opening-placed m lawful;
      early = tt;
      kept = λ span here. absurd here;
      largest = ((0, refl), omega arith);
      most_bytes = omega arith;
      most_spans = omega arith;
    }

-- where the live spans lie
pub placed-lies : (start : Memory) (most : ℕ) (m : Memory) (live : List Span) → Lawful m → Placed start most m live → Each (Lies m) live
placed-lies start most [] live lawful e = subst (λ l. Each (Lies []) l) (sym e) tt
placed-lies start most (b ∷ older) live (mark, end, apart, all, lawful) (from, low, room, tight) =
    tight-lies b older apart low (omega arith) tight

pub placed-separate : (start : Memory) (most : ℕ) (m : Memory) (live : List Span) → Lawful m → Placed start most m live → AllSeparate live
placed-separate start most [] live lawful e = subst AllSeparate (sym e) tt
placed-separate start most (b ∷ older) live (mark, end, apart, all, lawful) (from, low, room, tight) =
    tight-separate b older apart low (omega arith) tight

pub placed-taken : (start : Memory) (most : ℕ) (m : Memory) (live : List Span) → Lawful m → Placed start most m live → Each (Taken m) live
placed-taken start most [] live lawful e = subst (λ l. Each (Taken []) l) (sym e) tt
placed-taken start most (b ∷ older) live (mark, end, apart, all, lawful) (from, low, room, tight) = tight-taken b all low (omega arith) tight

lies-within : (m : Memory) (live : List Span) → Each (Lies m) live → (span : Span) → Among span live → (offset : ℕ) → offset < span.size → within m (span.at + offset) ≡ true
lies-within m live lies span here offset less =
    within-from m span (span.at + offset) (each-at (Lies m) live span lies here).0 (omega arith) (omega arith)

-- a push that is served: from what it did to the memory
module _ (start : Memory) (ledger : Ledger) (m : Memory) (live : List Span) (given : ℕ) (inv : Inv start ledger (new_state m live given))
    (size align : ℕ) (sized : Sized size) (aligning : Aligning align) where
  pub largest-more : Aligning (max ledger.largest align)
  largest-more = elim (cases_lt ledger.largest align) [
    | inl less ↦ let e : max ledger.largest align ≡ align = omega arith in subst Aligning (sym e) aligning
    | inr le ↦ let e : max ledger.largest align ≡ ledger.largest = omega arith in subst Aligning (sym e) inv.largest
  ]

  pub served-inv : (at : ℕ) (after : Memory) → Lawful after → length m ≤ length after → layouts.Aligned at align →
      Placed start (max ledger.largest align) after (new_span (suc given) at size align ∷ live) →
      ((to : ℕ) → within m to ≡ true → byte_at after to ≡ byte_at m to) →
      Inv start (fed ledger (adds (new_span (suc given) at size align))) (new_state after (new_span (suc given) at size align ∷ live) (suc given))
  served-inv at after lawful more multiple there same =
      record {
        lawful = lawful;
        longer = omega (arith, inv.longer);
        agrees = ap (λ l. new_span (suc given) at size align ∷ l) inv.agrees;
        numbered = (omega arith, inv.numbered);
        aligned = (multiple, inv.aligned);
        places = there;
        early = early-more given ledger.stores inv.early;
        kept = keeps;
        largest = largest-more;
        most_bytes = omega (arith, ap bytes inv.agrees);
        most_spans = omega (arith, ap length inv.agrees);
      }
    where
      keeps : Kept after ledger.stores (new_span (suc given) at size align ∷ live)
      keeps span (inl e) offset value less last =
          absurd (omega (arith, ap (λ (x : Span). x.grant) e, early-last given ledger.stores span.grant offset value inv.early last))
      keeps span (inr here) offset value less last =
          same (span.at + offset) (lies-within m live (placed-lies start ledger.largest m live inv.lawful inv.places) span here offset less)
          ∙ inv.kept span here offset value less last

-- in the newest block
pub fitted : (start : Memory) (ledger : Ledger) (m : Memory) (live : List Span) (given : ℕ) → Inv start ledger (new_state m live given) →
    (size align : ℕ) → Sized size → Aligning align → fits m size align ≡ true → Lawful (pushed m size align) →
    Inv start (fed ledger (adds (new_span (suc given) (placed m align) size align))) (new_state (pushed m size align) (new_span (suc given) (placed m align) size align ∷ live) (suc given))
fitted start ledger [] live given inv size align sized aligning fit lawful = absurd (both_ways false refl fit)
fitted start ledger (b ∷ older) live given inv size align sized aligning fit lawful =
    let (from, low, room, tight) = inv.places in
    let at : ℕ = up (b.base + b.mark) align in
    let most : ℕ = max ledger.largest align in
    served-inv start ledger (b ∷ older) live given inv size align sized aligning at (pushed (b ∷ older) size align) lawful (omega arith)
    (pad-aligns (b.base + b.mark) align (aligning-some align aligning)) (
      from,
      low,
      room,
      atop sized.0 (omega arith) (omega arith)
          (tight-raised ledger.largest most inv.largest (largest-more start ledger (b ∷ older) live given inv size align sized aligning) (omega arith) align aligning (omega arith) tight),
    )
    (λ to there. refl)

-- in a further block
pub furthered : (start : Memory) (ledger : Ledger) (m : Memory) (live : List Span) (given : ℕ) → Inv start ledger (new_state m live given) →
    (size align : ℕ) → Sized size → Aligning align → (b : Block) (at : ℕ) → at ≡ b.base + pad b.base align → b.base + b.mark ≡ at + size → Lawful (b ∷ full m) →
    Inv start (fed ledger (adds (new_span (suc given) at size align))) (new_state (b ∷ full m) (new_span (suc given) at size align ∷ live) (suc given))
furthered start ledger m live given inv size align sized aligning b at first filled lawful =
    let most : ℕ = max ledger.largest align in
    let hm : Aligning most = largest-more start ledger m live given inv size align sized aligning in
    let whole : capacity start (b ∷ full m) ≡ length b.bytes = let h : length start < length (b ∷ full m) = omega (arith, inv.longer, length-full m) in cond-true _ _ _ (lt-ltb (length start) (length (b ∷ full m)) h) in
    served-inv start ledger m live given inv size align sized aligning at (b ∷ full m) lawful (omega (arith, length-full m))
    (ap (λ x. x % align) first ∙ pad-aligns b.base align (aligning-some align aligning)) (
      b.base,
      omega arith,
      omega (arith, whole),
      atop sized.0 (omega arith) (omega arith)
          (bottom (omega arith) (omega (arith, up-within b.base b.base align most aligning hm (omega arith) (omega arith)))
          (each-map (Lies m) (Lies (full m)) (λ span (there, some). (full-in m span there, some)) live (placed-lies start ledger.largest m live inv.lawful inv.places))
          (placed-separate start ledger.largest m live inv.lawful inv.places)),
    )
    (λ to there. byte_at-further b (full m) to lawful.2 (within-full m to ∙ there) ∙ byte_at-full m to)

-- a pop
popped-placed : (start : Memory) (most : ℕ) (m : Memory) (span : Span) (live : List Span) → Lawful m →
    Placed start most m (span ∷ live) → Placed start most (popped m span.at) live
popped-placed start most [] span live lawful e = absurd cc
popped-placed start most (b ∷ older) span live (mark, end, apart, all, lawful) (from, low, room, tight) = elim (tight-first tight) [
  | inl (there, some, rest) ↦
      let at : ℕ = span.at in
      let off : taken_in b at ≡ false = elim (cases_Bool (taken_in b at)) [
        | inl yes' ↦ absurd (both_ways (within older at) (apart at (taken-inside b at mark yes')) (within-from older span at there (omega arith) (omega arith)))
        | inr not' ↦ not'
      ] in
      subst (λ x. Placed start most (x ∷ older) live) (sym (cond-false _ _ _ off)) (from, low, room, rest)
  | inr (some, ends, rest) ↦
      let high = tight-low rest in
      let on : taken_in b span.at ≡ true = spans-from b.base b.mark span.at (omega arith) (omega arith) in
      let back : span.at ≡ b.base + (span.at - b.base) = omega arith in
      subst (λ x. Placed start most (x ∷ older) live) (sym (cond-true _ _ _ on)) (from, low, room, subst (λ x. Tight older from most live x) back rest)
]

pub popped-inv : (start : Memory) (ledger : Ledger) (m : Memory) (span : Span) (live : List Span) (given : ℕ) → Inv start ledger (new_state m (span ∷ live) given) →
    Lawful (popped m span.at) → Inv start (fed ledger removes) (new_state (popped m span.at) live given)
popped-inv start ledger m span live given inv lawful =
    record {
      lawful = lawful;
      longer = omega (arith, inv.longer, length-popped m span.at);
      agrees = ap all_but_newest inv.agrees;
      numbered = numbered-more _ _ live inv.numbered.0 inv.numbered.1;
      aligned = inv.aligned.1;
      places = popped-placed start ledger.largest m span live inv.lawful inv.places;
      early = inv.early;
      kept = λ one here offset value less last. byte_at-popped m span.at (one.at + offset) ∙ inv.kept one (inr here) offset value less last;
      largest = inv.largest;
      most_bytes = omega (arith, inv.most_bytes);
      most_spans = omega (arith, inv.most_spans);
    }

-- a store
pub capacity-same : (start : Memory) (b b' : Block) (older older' : Memory) → length b'.bytes ≡ length b.bytes → length older' ≡ length older → capacity start (b' ∷ older') ≡ capacity start (b ∷ older)
capacity-same start b b' older older' e e' = ap₂ (λ n k. cond (ltb (length start) (suc n)) k (untaken start)) e' e

stored-placed : (start : Memory) (most : ℕ) (m : Memory) (live : List Span) (at v : ℕ) → Placed start most m live → Placed start most (stored m at v) live
stored-placed start most [] live at v e = e
stored-placed start most (b ∷ older) live at v (from, low, room, tight) =
    let same : length (written b at v).bytes ≡ length b.bytes = length-written b at v in (
      from,
      low,
      omega (arith, room, same, capacity-same start b (written b at v) older (stored older at v) same (length-stored older at v)),
      tight-moved (stored-in older at v) tight,
    )

pub stored-inv : (start : Memory) (ledger : Ledger) (s : State) → Inv start ledger s → (span : Span) (offset v : ℕ) → Among span s.live → offset < span.size →
    Lawful (stored s.memory (span.at + offset) v) →
    Inv start (fed ledger (notes (record { grant = span.grant; offset = offset; byte = v }))) (new_state (stored s.memory (span.at + offset) v) s.live s.given)
stored-inv start ledger s inv span offset v here less lawful =
    record {
      lawful = lawful;
      longer = omega (arith, inv.longer, length-stored s.memory at v);
      agrees = inv.agrees;
      numbered = inv.numbered;
      aligned = inv.aligned;
      places = stored-placed start ledger.largest s.memory s.live at v inv.places;
      early = (omega (arith, numbered-below (suc s.given) s.live span inv.numbered here), inv.early);
      kept = keeps;
      largest = inv.largest;
      most_bytes = inv.most_bytes;
      most_spans = inv.most_spans;
    }
  where
    at : ℕ
    at = span.at + offset

    there : within s.memory (span.at + offset) ≡ true
    there = lies-within s.memory s.live (placed-lies start ledger.largest s.memory s.live inv.lawful inv.places) span here offset less

    apart : (one : Span) → Among one s.live → (offset' : ℕ) → offset' < one.size → (span.grant ≡ one.grant → offset ≡ offset' → ⊥) → one.at + offset' ≢ span.at + offset
    apart one here' offset' less' ne same = elim (cases_eq span.grant one.grant) [
      | inl e ↦
          let is : span ≡ one = unique (suc s.given) s.live span one inv.numbered here here' e in
          ne e (omega (arith, ap (λ (x : Span). x.at) is))
      | inr e ↦ elim (separate-at s.live span one (placed-separate start ledger.largest s.memory s.live inv.lawful inv.places) here here' e) [
        | inl before ↦ omega arith
        | inr after ↦ omega arith
      ]
    ]

    keeps : Kept (stored s.memory (span.at + offset) v) (record { grant = span.grant; offset = offset; byte = v } ∷ ledger.stores) s.live
    keeps one here' offset' value less' (inl (eg, eo, ev)) =
        let is : span ≡ one = unique (suc s.given) s.live span one inv.numbered here here' eg in
        let same : one.at + offset' ≡ span.at + offset = omega (arith, ap (λ (x : Span). x.at) is) in
        ap (λ x. byte_at (stored s.memory (span.at + offset) v) x) same ∙ byte_at-stored s.memory (span.at + offset) v there ∙ ev
    keeps one here' offset' value less' (inr (ne, last)) =
        byte_at-other s.memory (span.at + offset) v (one.at + offset') (apart one here' offset' less' ne) ∙ inv.kept one here' offset' value less' last
