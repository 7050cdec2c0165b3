-- The steps of an arena: what a request comes to, and a push, as any allocator's.
use Rattle.std.proofs.Common.{add-zero, ◌≡◌, ℕ, suc, ◌+◌, ◌-◌, ◌*◌, ◌^◌, ◌<◌, ◌≤◌, max, Bool, true, false, ltb, leb, List, [], ◌∷◌, length, drop, Ok, Err, Result, Some, None, Option, sym, refl, ap, ◌∙◌, subst, ap₂, inl, inr, arith, pow_mono, w64, Fits, rules}
use native.Mathlib.Nat.{two-pow-succ}
use mir.Val.{bool_byte}
use Rattle.std.specs.Option.{MatchOption, ok_or}
use Rattle.std.proofs.lemmas.Bool.{cases_Bool, cases_lt, and_from, le-leb, lt-ltb, lt-leb, leb-true, eqb-true, cond-true, cond-false, both_ways}
use Rattle.allocator.specs.Layouts.{pad}
use Rattle.allocator.specs.Memory.{Block, Memory, spans, taken, fits, full}
use Rattle.allocator.specs.Answers.{Push, fitted, further, refused, Pop}
use Rattle.allocator.specs.declared.fault.Cause.TheVariants as cause
use Rattle.allocator.specs.declared.fault.Fault.{Fault}
use Rattle.allocator.specs.declared.fault.Fault.TheVariants.{DoesNotFit}
use Rattle.source.specs.Answers.{Take, sized}
use Rattle.source.specs.Blocks.{Outstanding, Place, Source, contents, granted}
use Rattle.source.specs.declared.fault.SourceFault.{SourceFault}
use Rattle.arena.specs.declared.record.BlockRecord.{BlockRecord}
use Rattle.arena.specs.Rings.{chain, place, before, rising, opened, room, counted, newest, newest_size}
use Rattle.arena.specs.Meaning.{usable, olders, memory_of, Kept}
use Rattle.arena.specs.Powers.{LeastPower, least_power_of, wanted}
use Rattle.arena.specs.Arenas.{Arena, Consulted, Taken, Takes, dry}
use Rattle.arena.specs.Arenas as arenas
use Rattle.arena.specs.Calls.{Begins, Marked, Extends, Opens, opening, answered}
use Rattle.arena.specs.Faults as faults
use Rattle.arena.specs.declared.fault.ArenaFault.{ArenaFault}
use Rattle.source.specs.Faults as sources
use Rattle.arena.specs.Keeps.{rise, contents-same, usable-length}
use Rattle.arena.proofs.Table.{least-is}
use Rattle.arena.proofs.Sources.{granted-differs, granted-kept, granted-olders, full-olders}

-- what the source answered to a request of a size that a block may have
module _ (s s' : Source) (size : ℕ) (some : 0 < size) (small : size ≤ 67108864) where
  sized-true : sized size ≡ true
  sized-true = and_from (ltb 0 size) (leb size 67108864) (lt-ltb 0 size some) (le-leb size 67108864 small)

  -- the block is beside those of the arena
  pub record Fresh (ps : List Place) (at : ℕ) : Type 0 where
    pub low : at < 2 ^ 48
    pub kept : Kept s'.blocks (record { base = at; size = size } ∷ ps)
    pub taken : (growths : ℕ) → Taken (record { source = s; blocks = ps; growths = growths }) size at (record { source = s'; blocks = record { base = at; size = size } ∷ ps; growths = growths + bool_byte (opened ps) })

  pub fresh : (ps : List Place) (at : ℕ) → Kept s.blocks ps → rising ps ≡ true → Take s size (Ok at) s' → Fresh ps at
  fresh ps at k r t =
      let g = t.asks sized-true in
      let b : Outstanding = record { base = at; bytes = g.bytes } in
      let many = g.many in
      let high = g.sound.high in
      let e : s'.blocks ≡ record { base = at; bytes = g.bytes } ∷ s.blocks = ap (λ (x : Source). x.blocks) g.after in
      let d = granted-differs b s.blocks ps (omega arith) g.apart k r in
      record {
        low = omega arith;
        kept =
            subst (λ (bs : List Outstanding). Kept bs (record { base = at; size = size } ∷ ps)) (sym e)
            (ap length (contents-same b s.blocks) ∙ many, d, granted-kept b s.blocks ps d k);
        taken = λ n. record { bytes = g.bytes; many = many; after = extends ps n g.bytes many g.after };
      }
    where
      extends : (ps : List Place) (n : ℕ) (bytes : List ℕ) → length bytes ≡ size → s' ≡ granted s (record { base = at; bytes = bytes }) →
          ◌≡◌ {A = Arena} (record { source = s'; blocks = record { base = at; size = size } ∷ ps; growths = n + bool_byte (opened ps) }) (arenas.extended (record { source = s; blocks = ps; growths = n }) (record { base = at; bytes = bytes }))
      extends [] n bytes many e = rw (e, many, add-zero n) refl
      extends (p ∷ ps) n bytes many e = rw (e, many) refl

-- growths are counted exactly: there are 22 at most
pub few-growths : (n : ℕ) (ps : List Place) → counted n ps ≡ true → rising ps ≡ true → n ≤ 22
few-growths n [] c r = let e = eqb-true n 0 c in omega arith
few-growths n (p ∷ ps) c r =
    let a = leb-true (2 ^ (n + 4)) p.size c in
    let s = (rise p ps r).small in
    elim (cases_lt 22 n) [ inl h ↦ (let j : 27 ≤ n + 4 = omega arith in let m : 2 ^ 27 ≤ 2 ^ (n + 4) = pow_mono j in absurd (omega arith)) | inr h ↦ h ]

-- with one more block they are one more, unless it is the first
pub counts : (n size : ℕ) (ps : List Place) → counted n ps ≡ true → 16 ≤ size → 2 * newest_size ps ≤ size → leb (2 ^ (n + bool_byte (opened ps) + 4)) size ≡ true
counts n size [] c some d =
    let e = eqb-true n 0 c in
    let m : 2 ^ (n + 0 + 4) ≡ 16 = rw e refl in
    le-leb (2 ^ (n + 0 + 4)) size (omega arith)
counts n size (p ∷ ps) c some d =
    let a = leb-true (2 ^ (n + 4)) p.size c in
    let e : n + 1 + 4 ≡ suc (n + 4) = omega arith in
    le-leb (2 ^ (n + 1 + 4)) size (rw e (omega (arith, two-pow-succ (n + 4))))

pub newest-counts : (n : ℕ) (ps : List Place) → counted n ps ≡ true → counted n (newest ps) ≡ true
newest-counts n [] c = c
newest-counts n (p ∷ ps) c = c

pub growths-fit : (n : ℕ) (ps : List Place) → counted n ps ≡ true → rising ps ≡ true → Fits w64 (n + bool_byte (opened ps))
growths-fit n [] c r = let few = few-growths n [] c r in search rules
growths-fit n (p ∷ ps) c r = let few = few-growths n (p ∷ ps) c r in search rules

-- a push without a block
pub unserved : (bs : List Outstanding) (ps : List Place) (used size align : ℕ) → ps ≡ [] → Push (memory_of bs ps used) size align (Err (DoesNotFit cause.Unopened)) (memory_of bs ps used)
unserved bs ps used size align none = rw none (refused refl cause.Unopened refl refl)

-- a push that the newest block has room for, or not
module _ (bs : List Outstanding) (ps : List Place) (p : Place) (qs : List Place) (used size align padding many : ℕ) (first : ps ≡ p ∷ qs) (k : Kept bs ps) (pad_is : padding ≡ pad (p.base + 16 + used) align) (many_is : many ≡ size) where
  newest-length : length (drop 16 (contents bs p.base)) ≡ p.size - 16
  newest-length = usable-length bs p (subst (λ (rs : List Place). Kept bs rs) first k).0

  pub roomy : padding + many ≤ p.size - 16 - used → fits (memory_of bs ps used) size align ≡ true
  roomy under = rw first (let u = newest-length in le-leb _ _ (omega (arith, pad_is)))

  pub unfit : p.size - 16 - used < padding + many → fits (memory_of bs ps used) size align ≡ false
  unfit over = rw first (let u = newest-length in lt-leb _ _ (omega (arith, pad_is)))

  pub served : padding + many ≤ p.size - 16 - used → Push (memory_of bs ps used) size align (Ok (p.base + 16 + used + padding)) (memory_of bs ps (used + (padding + many)))
  served under =
      fitted (roomy under) (rw first (ap (λ (n : ℕ). Ok (p.base + 16 + used + n)) pad_is))
      (rw first (ap₂ (λ (n m : ℕ). usable bs p (used + (n + m)) ∷ olders bs qs) pad_is many_is))

  pub marked : padding + many ≤ p.size - 16 - used → used ≤ room ps → used + (padding + many) ≤ room ps
  marked under low = let e = ap room first in omega arith

-- a push beyond the newest block
pub beyond : (a a' : Arena) (used used' size align : ℕ) (r : Result ℕ Fault) → Kept a.source.blocks a.blocks → Kept a'.source.blocks a'.blocks → fits (memory_of a.source.blocks a.blocks used) size align ≡ false →
    Extends a used size align r a' used' → Push (memory_of a.source.blocks a.blocks used) size align r (memory_of a'.source.blocks a'.blocks used')
beyond a a' used used' size align (Ok at) k k' unfit w = elim (cases_lt 67108864 (wanted (newest_size a.blocks) size align)) [
  | inl over ↦ (let b = (w.beyond over).0 in let z : ◌≡◌ {A = ℕ} 0 1 = cc in absurd (omega arith))
  | inr under ↦
      let g = w.asks under in
      let new : Outstanding = record { base = g.block; bytes = g.bytes } in
      let eb : a'.blocks ≡ record { base = g.block; size = length g.bytes } ∷ a.blocks = ap (λ (x : Arena). x.blocks) g.after in
      let es : a'.source.blocks ≡ record { base = g.block; bytes = g.bytes } ∷ a.source.blocks = ap (λ (x : Arena). x.source.blocks) g.after in
      let kk : Kept a'.source.blocks (record { base = g.block; size = length g.bytes } ∷ a.blocks) = subst (λ (ps : List Place). Kept a'.source.blocks ps) eb k' in
      let mark : g.block + 16 + used' ≡ at + size = subst (λ (ps : List Place). Marked used size (Ok at) ps used') eb w.marked in
      let o : olders a'.source.blocks a.blocks ≡ full (memory_of a.source.blocks a.blocks used) =
      ap (λ (bs : List Outstanding). olders bs a.blocks) es ∙ (granted-olders (record { base = g.block; bytes = g.bytes }) a.source.blocks a.blocks kk.1 ∙ sym (full-olders a.source.blocks a.blocks used k)) in
      further unfit (usable a'.source.blocks (record { base = g.block; size = length g.bytes }) used') (ap Ok g.first) (omega (arith, mark, g.first))
      (ap (λ (ps : List Place). memory_of a'.source.blocks ps used') eb ∙ ap (λ (m : Memory). usable a'.source.blocks (record { base = g.block; size = length g.bytes }) used' ∷ m) o)
]
beyond a a' used used' size align (Err fault) k k' unfit w = elim (cases_lt 67108864 (wanted (newest_size a.blocks) size align)) [
  | inl over ↦ (let b = w.beyond over in let e1 = b.0 in let e2 = b.1 in let m = w.marked in refused unfit cause.BlockLimit e1 (cc))
  | inr under ↦
      let d = w.asks under in
      let m = w.marked in
      let eb : a'.blocks ≡ a.blocks = ap (λ (x : Arena). x.blocks) d.1 in
      let es : a'.source.blocks ≡ a.source.blocks = ap (λ (x : Arena). x.source.blocks) d.1 in
      refused unfit cause.NoBlock (ap Err d.0) (cc)
]

-- a pop from the newest block
pub popped-newest : (bs : List Outstanding) (ps : List Place) (p : Place) (qs : List Place) (used at : ℕ) → ps ≡ p ∷ qs → taken (memory_of bs ps used) at ≡ true → spans (p.base + 16) used at ≡ true →
    Pop (memory_of bs ps used) at (Ok tt) (memory_of bs ps (at - (p.base + 16)))
popped-newest bs ps p qs used at first on inside =
    record {
      answer = sym (cond-true _ _ _ on);
      after = rw first (ap (λ (b : Block). b ∷ olders bs qs) (sym (cond-true _ _ _ inside)));
    }

-- how large the block is that follows the newest
pub wanted-is : (n last least size align s a : ℕ) → n ≡ max (2 * last) least → LeastPower (16 + s + a) least → s ≡ size → a ≡ align → n ≡ wanted last size align
wanted-is n last least size align s a m l e f = rw (sym e, sym f) (m ∙ ap (λ (x : ℕ). max (2 * last) x) (least-is (16 + s + a) least l))

-- what `ok_or` refused of the newest block
pub tail-none : {E : Type 0} (rs : List BlockRecord) (o : Option BlockRecord) (f e : E) → Err f ≡ ok_or o e → MatchOption o (chain rs ≡ []) (λ x. chain rs ≡ place x ∷ before (chain rs)) → (chain rs ≡ []) × (f ≡ e)
tail-none rs None f e is m = (m, cc)
tail-none rs (Some y) f e is m = absurd (cc)

-- what a source was asked, and what it answered
pub asked-so : {S : Type 0} {chooses : S → ℕ → Result ℕ SourceFault → S → Type 0} {asked : Bool} {s s' : S} {want want' : ℕ} {answer answer' : Result ℕ SourceFault} →
    asked ≡ true → want ≡ want' → answer ≡ answer' → chooses s want answer s' → Consulted chooses asked s want' answer' s'
asked-so {chooses = chooses} {s = s} {s' = s'} {want' = want'} {answer = answer} on want_is answer_is c =
    record {
      chosen = λ _. subst (λ (r : Result ℕ SourceFault). chooses s want' r s') answer_is (subst (λ (w : ℕ). chooses s w answer s') want_is c);
      same = λ off. absurd (both_ways _ off on);
    }

pub not-asked : {S : Type 0} {chooses : S → ℕ → Result ℕ SourceFault → S → Type 0} {asked : Bool} {s s' : S} {want : ℕ} {answer : Result ℕ SourceFault} →
    asked ≡ false → s' ≡ s → Consulted chooses asked s want answer s'
not-asked off e = record { chosen = λ on. absurd (both_ways _ off on); same = λ _. e }

extended-blocks : (a : Arena) (b : Outstanding) → (arenas.extended a b).blocks ≡ record { base = b.base; size = length b.bytes } ∷ a.blocks
extended-blocks a b = elim (cases_Bool (opened a.blocks)) [ inl e ↦ rw e refl | inr e ↦ rw e refl ]

pub taken-blocks : (a a' : Arena) (want at : ℕ) → Taken a want at a' → a'.blocks ≡ record { base = at; size = want } ∷ a.blocks
taken-blocks a a' want at t = ap (λ (x : Arena). x.blocks) t.after ∙ (extended-blocks a _ ∙ ap (λ (n : ℕ). record { base = at; size = n } ∷ a.blocks) t.many)

-- the answer of a request, as it is read off what became of it
pub answered-ok : {X : Type 0} (E : Type 0) (x : X) (a a' : Arena) (want at : ℕ) → Taken a want at a' → Ok at ≡ answered {X = X} {E = E} (Ok x) a'.blocks
answered-ok E x a a' want at t = rw (taken-blocks a a' want at t) refl

-- an opening that asked the source
module _ (a a' : Arena) (cap size : ℕ) (empty : opened a.blocks ≡ false) (small : cap ≤ 16777216) (l : LeastPower (cap + 16) size) where
  pub opening-asks : opening a.blocks cap ≡ true
  opening-asks = rw empty (le-leb cap 16777216 small)

  opens : {r : Result (Unit {0}) ArenaFault} → Begins a (least_power_of (cap + 16)) r a' → Opens a cap r a'
  opens b = record { again = λ o. absurd (both_ways (opened a.blocks) empty o); large = λ _ h. absurd (omega arith); asks = λ _ _. b }

  pub opens-refused : (fault : SourceFault) → Takes a size (Err fault) a' → Opens a cap (Err (faults.fault_of fault)) a'
  opens-refused fault t = opens (ap faults.fault_of t.0, t.1 ∙ ap (λ (n : ℕ). dry a n) (least-is (cap + 16) size l))

  pub opens-granted : (at : ℕ) → Takes a size (Ok at) a' → Opens a cap (Ok tt) a'
  opens-granted at t = opens (record { at = at; bytes = t.bytes; many = t.many ∙ least-is (cap + 16) size l; after = t.after ∙ cond-false _ _ _ empty })

-- a push beyond the newest block, for which the arena wants one of n bytes
module _ (a a' : Arena) (n last least size align sz al used : ℕ) (some : opened a.blocks ≡ true) (last_is : newest_size a.blocks ≡ last) (n_is : n ≡ max (2 * last) least) (l : LeastPower (16 + sz + al) least) (sz_is : sz ≡ size) (al_is : al ≡ align) where
  pub want : n ≡ wanted last size align
  want = wanted-is n last least size align sz al n_is l sz_is al_is

  want' : n ≡ wanted (newest_size a.blocks) size align
  want' = want ∙ ap (λ (x : ℕ). wanted x size align) (sym last_is)

  pub over-extends : 67108864 < n → Extends a used size align (Err (DoesNotFit cause.BlockLimit)) a used
  over-extends over = record { beyond = λ _. (refl, refl); asks = λ under. absurd (omega (arith, want')); marked = refl }

  pub over-asked : 67108864 < n → leb (wanted last size align) 67108864 ≡ false
  over-asked over = lt-leb _ _ (omega (arith, want))

  module _ (under : n ≤ 67108864) where
    pub under-asked : leb (wanted last size align) 67108864 ≡ true
    under-asked = le-leb _ _ (omega (arith, want))

    pub refused-extends : (fault : SourceFault) → Takes a n (Err fault) a' → Extends a used size align (Err (sources.fault_of fault)) a' used
    refused-extends fault t =
        record {
          beyond = λ over. absurd (omega (arith, want'));
          asks = λ _. (ap sources.fault_of t.0, t.1 ∙ ap (λ (m : ℕ). dry a m) want');
          marked = refl;
        }

    module _ (at padding sz' : ℕ) (t : Takes a n (Ok at) a') (pad_is : padding ≡ pad (at + 16) align) (many : sz' ≡ size) where
      pub granted-extends : Extends a used size align (Ok (at + 16 + padding)) a' (padding + sz')
      granted-extends =
          record {
            beyond = λ over. absurd (omega (arith, want'));
            asks = λ _. record { block = at; bytes = t.bytes; many = t.many ∙ want'; first = ap (λ (k : ℕ). at + 16 + k) pad_is; after = t.after ∙ cond-true _ _ _ some };
            marked = subst (λ (qs : List Place). Marked used size (Ok (at + 16 + padding)) qs (padding + sz')) (sym (taken-blocks a a' n at t)) (omega arith);
          }
