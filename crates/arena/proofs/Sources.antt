-- The blocks of an arena while its source grants further blocks, stores bytes and takes blocks back.
use Rattle.std.proofs.Common.{◌≡◌, ℕ, ◌+◌, ◌-◌, ◌<◌, ◌≤◌, Bool, true, false, cond, eqb, List, [], ◌∷◌, length, get_or, drop, set, Result, sym, refl, ap, ◌∙◌, subst, inl, inr, arith, length-drop, length-set}
use Rattle.std.proofs.lemmas.List.{drop-set-lt, drop-set-add, get_or-drop}
use Rattle.std.proofs.lemmas.Bool.{true≢false, cases_Bool, cases_lt, or_cases, eqb-true, cond-true, cond-false, both_ways}
use Rattle.allocator.specs.Memory.{Memory, spans}
use Rattle.allocator.specs.Memory as memory
use Rattle.allocator.proofs.Spans.{spans-true, spans-from}
use Rattle.source.specs.Answers.{Store}
use Rattle.source.specs.declared.fault.SourceFault.{SourceFault}
use Rattle.source.specs.Blocks.{Outstanding, Place, Source, Apart, Lawful, inside, within, without, contents, byte_at, stored, having}
use Rattle.arena.specs.Rings.{rising, room, newest, before}
use Rattle.arena.specs.Meaning.{usable, olders, memory_of, Loaded, Differs, Kept}
use Rattle.arena.specs.Arenas.{given_back}
use Rattle.arena.specs.Keeps.{rise, contents-other, within-contents, usable-length}

-- a block that was granted is none of the arena's
pub granted-differs : (b : Outstanding) (bs : List Outstanding) (ps : List Place) → 0 < length b.bytes → Apart b bs → Kept bs ps → rising ps ≡ true → Differs b.base ps
granted-differs b bs [] some apart k r = tt
granted-differs b bs (p ∷ ps) some apart k r =
    let d = rise p ps r in (
      (λ e. let x = d.some in let y = k.0 in
          true≢false (sym (within-contents bs p.base b.base (omega arith) (omega arith)) ∙ apart b.base (spans-from b.base (length b.bytes) b.base (omega arith) (omega arith)))),
      granted-differs b bs ps some apart k.2 d.older,
    )

pub granted-kept : (b : Outstanding) (bs : List Outstanding) (ps : List Place) → Differs b.base ps → Kept bs ps → Kept (b ∷ bs) ps
granted-kept b bs [] d k = tt
granted-kept b bs (p ∷ ps) d k = (ap length (contents-other b bs p.base d.0) ∙ k.0, k.1, granted-kept b bs ps d.1 k.2)

pub granted-olders : (b : Outstanding) (bs : List Outstanding) (ps : List Place) → Differs b.base ps → olders (b ∷ bs) ps ≡ olders bs ps
granted-olders b bs [] d = refl
granted-olders b bs (p ∷ ps) d = rw (contents-other b bs p.base d.0, granted-olders b bs ps d.1)

-- once a newer block is to come, all bytes of the newest are taken
pub full-olders : (bs : List Outstanding) (ps : List Place) (used : ℕ) → Kept bs ps → memory.full (memory_of bs ps used) ≡ olders bs ps
full-olders bs [] used k = refl
full-olders bs (p ∷ ps) used k = rw (usable-length bs p k.0) refl

-- the byte of an outstanding block
byte-contents : (bs : List Outstanding) (a at : ℕ) → Lawful bs → a ≤ at → at < a + length (contents bs a) → byte_at bs at ≡ get_or (contents bs a) (at - a) 0
byte-contents [] a at l low high = absurd (omega arith)
byte-contents (b ∷ bs) a at l low high = elim (cases_Bool (eqb b.base a)) [
  | inl e ↦
      let f = eqb-true b.base a e in
      let h : at < a + length b.bytes = rw e at high in
      let i : inside b at ≡ true = spans-from b.base (length b.bytes) at (omega arith) (omega arith) in
      rw (e, i) (ap (λ (x : ℕ). get_or b.bytes (at - x) 0) f)
  | inr e ↦
      let h : at < a + length (contents bs a) = rw e at high in
      let i : inside b at ≡ false = elim (cases_Bool (inside b at)) [ inl in' ↦ absurd (true≢false (sym (within-contents bs a at low h) ∙ l.1 at in')) | inr out ↦ out ] in
      rw (e, i) (byte-contents bs a at l.2 low h)
]

-- a taken byte of the arena's memory is the source's
module _ (bs : List Outstanding) (l : Lawful bs) where
  here : (p : Place) (mark at : ℕ) (rest : Memory) → memory.inside (usable bs p mark) at ≡ true → Loaded bs (usable bs p mark ∷ rest) at
  here p mark at rest in' =
      let x = spans-true (p.base + 16) (length (drop 16 (contents bs p.base))) at in' in
      let u = length-drop 16 (contents bs p.base) in
      let j : 16 + (at - (p.base + 16)) ≡ at - p.base = omega arith in
      record {
        within = within-contents bs p.base at (omega arith) (omega arith);
        byte = rw in' (get_or-drop 16 (contents bs p.base) (at - (p.base + 16)) 0 ∙ (ap (λ (n : ℕ). get_or (contents bs p.base) n 0) j ∙ sym (byte-contents bs p.base at l (omega arith) (omega arith))));
      }

  there : (p : Place) (mark at : ℕ) (rest : Memory) → Loaded bs rest at → Loaded bs (usable bs p mark ∷ rest) at
  there p mark at rest w = elim (cases_Bool (memory.inside (usable bs p mark) at)) [
    | inl in' ↦ here p mark at rest in'
    | inr out ↦ record { within = w.within; byte = rw out w.byte }
  ]

  taken-inside : (p : Place) (mark at : ℕ) → length (contents bs p.base) ≡ p.size → mark ≤ p.size - 16 → memory.taken_in (usable bs p mark) at ≡ true → memory.inside (usable bs p mark) at ≡ true
  taken-inside p mark at e m on =
      let x = spans-true (p.base + 16) mark at on in
      let u = usable-length bs p e in
      spans-from (p.base + 16) (length (drop 16 (contents bs p.base))) at x.0 (omega arith)

  older-loaded : (ps : List Place) (at : ℕ) → Kept bs ps → memory.taken (olders bs ps) at ≡ true → Loaded bs (olders bs ps) at
  older-loaded [] at k on = absurd (true≢false (sym on))
  older-loaded (p ∷ ps) at k on = elim (or_cases (memory.taken_in (usable bs p (p.size - 16)) at) (memory.taken (olders bs ps) at) on) [
    | inl b ↦ here p (p.size - 16) at (olders bs ps) (taken-inside p (p.size - 16) at k.0 (omega arith) b)
    | inr b ↦ there p (p.size - 16) at (olders bs ps) (older-loaded ps at k.2 b)
  ]

  pub loaded : (ps : List Place) (used at : ℕ) → Kept bs ps → used ≤ room ps → memory.taken (memory_of bs ps used) at ≡ true → Loaded bs (memory_of bs ps used) at
  loaded [] used at k m on = absurd (true≢false (sym on))
  loaded (p ∷ ps) used at k m on = elim (or_cases (memory.taken_in (usable bs p used) at) (memory.taken (olders bs ps) at) on) [
    | inl b ↦ here p used at (olders bs ps) (taken-inside p used at k.0 m b)
    | inr b ↦ there p used at (olders bs ps) (older-loaded ps at k.2 b)
  ]

-- a byte that is stored at the source, in one of its blocks
stored-contents : (bs : List Outstanding) (a at v : ℕ) → contents (stored bs at v) a ≡ cond (spans a (length (contents bs a)) at) (set (contents bs a) (at - a) v) (contents bs a)
stored-contents [] a at v = sym (elim (cases_Bool (spans a 0 at)) [ inl e ↦ cond-true _ _ _ e | inr e ↦ cond-false _ _ _ e ])
stored-contents (b ∷ bs) a at v = elim (cases_Bool (eqb b.base a)) [
  | inl e ↦ (let f = eqb-true b.base a e in rw e (ap (λ (x : ℕ). cond (spans x (length b.bytes) at) (set b.bytes (at - x) v) b.bytes) f))
  | inr e ↦ rw e (stored-contents bs a at v)
]

pub stored-kept : (bs : List Outstanding) (at v : ℕ) (ps : List Place) → Kept bs ps → Kept (stored bs at v) ps
stored-kept bs at v [] k = tt
stored-kept bs at v (p ∷ ps) k = (ap length (stored-contents bs p.base at v) ∙ (same (spans p.base (length (contents bs p.base)) at) ∙ k.0), k.1, stored-kept bs at v ps k.2)
  where
    same : (t : Bool) → length (cond t (set (contents bs p.base) (at - p.base) v) (contents bs p.base)) ≡ length (contents bs p.base)
    same true = length-set (contents bs p.base) (at - p.base) v
    same false = refl

pub store-kept : (s s' : Source) (at v : ℕ) (r : Result (Unit {0}) SourceFault) (ps : List Place) → Store s at v r s' → Kept s.blocks ps → Kept s'.blocks ps
store-kept s s' at v r ps w k = subst (λ (x : Source). Kept x.blocks ps) (sym w.after) (either (within s.blocks at))
  where
    either : (t : Bool) → Kept (cond t (having s (stored s.blocks at v)) s).blocks ps
    either true = stored-kept s.blocks at v ps k
    either false = k

-- the same byte, in the arena's memory
stored-usable : (bs : List Outstanding) (p : Place) (mark at v : ℕ) → usable (stored bs at v) p mark ≡ memory.written (usable bs p mark) at v
stored-usable bs p mark at v = ap (λ (xs : List ℕ). record { base = p.base + 16; mark = mark; bytes = xs }) (ap (drop 16) (stored-contents bs p.base at v) ∙ past)
  where
    past : drop 16 (cond (spans p.base (length (contents bs p.base)) at) (set (contents bs p.base) (at - p.base) v) (contents bs p.base)) ≡ cond (spans (p.base + 16) (length (drop 16 (contents bs p.base))) at) (set (drop 16 (contents bs p.base)) (at - (p.base + 16)) v) (drop 16 (contents bs p.base))
    past =
        let u = length-drop 16 (contents bs p.base) in
        elim (cases_Bool (spans (p.base + 16) (length (drop 16 (contents bs p.base))) at)) [
          | inl i ↦
              let x = spans-true (p.base + 16) (length (drop 16 (contents bs p.base))) at i in
              let o = spans-from p.base (length (contents bs p.base)) at (omega arith) (omega arith) in
              let j : at - p.base ≡ 16 + (at - (p.base + 16)) = omega arith in
              rw (i, o) (ap (λ (n : ℕ). drop 16 (set (contents bs p.base) n v)) j ∙ drop-set-add 16 (contents bs p.base) (at - (p.base + 16)) v)
          | inr i ↦ elim (cases_Bool (spans p.base (length (contents bs p.base)) at)) [
            | inl o ↦
                let y = spans-true p.base (length (contents bs p.base)) at o in
                elim (cases_lt at (p.base + 16)) [
                  | inl reserved ↦ rw (i, o) (drop-set-lt 16 (contents bs p.base) (at - p.base) v (omega arith))
                  | inr beyond ↦ absurd (both_ways _ i (spans-from (p.base + 16) (length (drop 16 (contents bs p.base))) at beyond (omega arith)))
                ]
            | inr o ↦ rw (i, o) refl
          ]
        ]

stored-olders : (bs : List Outstanding) (ps : List Place) (at v : ℕ) → olders (stored bs at v) ps ≡ memory.stored (olders bs ps) at v
stored-olders bs [] at v = refl
stored-olders bs (p ∷ ps) at v = let e = stored-usable bs p (p.size - 16) at v in let f = stored-olders bs ps at v in cc

pub stored-memory : (bs : List Outstanding) (ps : List Place) (used at v : ℕ) → memory_of (stored bs at v) ps used ≡ memory.stored (memory_of bs ps used) at v
stored-memory bs [] used at v = refl
stored-memory bs (p ∷ ps) used at v = let e = stored-usable bs p used at v in let f = stored-olders bs ps at v in cc

-- a block that is none of those that were given back is still outstanding
without-contents : (bs : List Outstanding) (a c : ℕ) → (a ≡ c → ⊥) → contents (without bs c) a ≡ contents bs a
without-contents [] a c ne = refl
without-contents (b ∷ bs) a c ne = elim (cases_Bool (eqb b.base c)) [
  | inl e ↦ rw e (without-contents bs a c ne ∙ sym (contents-other b bs a (λ f. ne (sym f ∙ eqb-true b.base c e))))
  | inr e ↦ rw e (ap (λ (x : List ℕ). cond (eqb b.base a) b.bytes x) (without-contents bs a c ne))
]

pub given-contents : (s : Source) (ps : List Place) (a : ℕ) → Differs a ps → contents (given_back s ps).blocks a ≡ contents s.blocks a
given-contents s [] a d = refl
given-contents s (p ∷ ps) a d = given-contents (having s (without s.blocks p.base)) ps a d.1 ∙ without-contents s.blocks a p.base d.0

-- once the older blocks were given back, the newest is outstanding still
pub shrunk-kept : (s : Source) (ps : List Place) → Kept s.blocks ps → Kept (given_back s (before ps)).blocks (newest ps)
shrunk-kept s [] k = tt
shrunk-kept s (p ∷ ps) k = (ap length (given-contents s ps p.base k.1) ∙ k.0, tt, tt)
