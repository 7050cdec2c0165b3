-- The memory of an arena is lawful: its blocks are outstanding at a source whose blocks are.
use Rattle.std.specs.Prelude.{◌≡◌, ℕ, ◌+◌, ◌-◌, ◌*◌, ◌^◌, ◌<◌, ◌≤◌, true, List, [], ◌∷◌, length, drop, ◌==◌, ◌≢◌, nat_le, nat_lt, refl}
use Rattle.std.proofs.Common.{◌∙◌, sym, ap, subst, inl, inr, arith, length-drop}
use Rattle.std.proofs.lemmas.Bool.{true≢false, cases_Bool, and_parts, or_left, or_right, or_from, leb-true, ltb-true, eqb-true, eq-eqb, ne_eqb, cond-true, cond-false}
use Rattle.allocator.specs.Memory as memory
use Rattle.allocator.proofs.Spans.{spans-true, spans-from}
use Rattle.source.specs.Blocks.{Outstanding, Place, Sound, Lawful, inside, within, contents}
use Rattle.arena.specs.Rings.{rising, room, newest_size}
use Rattle.arena.specs.Meaning.{usable, olders, memory_of, Differs, Kept}

-- the limits of the newest block
pub record Rise (p : Place) (ps : List Place) : Type 0 where
  pub some : 16 ≤ p.size
  pub small : p.size ≤ 67108864
  pub low : p.base < 2 ^ 48
  pub doubles : 2 * newest_size ps ≤ p.size
  pub older : rising ps ≡ true

pub rise : (p : Place) (ps : List Place) → rising (p ∷ ps) ≡ true → Rise p ps
rise p ps r =
    let a = and_parts (nat_le 16 p.size) _ r in
    let b = and_parts (nat_le p.size 67108864) _ a.1 in
    let c = and_parts (nat_lt p.base (2 ^ 48)) _ b.1 in
    let d = and_parts (nat_le (2 * newest_size ps) p.size) (rising ps) c.1 in
    record {
      some = leb-true 16 p.size a.0;
      small = leb-true p.size 67108864 b.0;
      low = ltb-true p.base (2 ^ 48) c.0;
      doubles = leb-true (2 * newest_size ps) p.size d.0;
      older = d.1;
    }

pub contents-other : (b : Outstanding) (bs : List Outstanding) (a : ℕ) → (b.base ≢ a) → contents (b ∷ bs) a ≡ contents bs a
contents-other b bs a ne = cond-false _ _ _ (ne_eqb b.base a ne)

pub contents-same : (b : Outstanding) (bs : List Outstanding) → contents (b ∷ bs) b.base ≡ b.bytes
contents-same b bs = cond-true _ _ _ (eq-eqb b.base b.base refl)

-- an address of an outstanding block is within the blocks
pub within-contents : (bs : List Outstanding) (a at : ℕ) → a ≤ at → at < a + length (contents bs a) → within bs at ≡ true
within-contents [] a at low high = absurd (omega arith)
within-contents (b ∷ bs) a at low high = elim (cases_Bool (b.base == a)) [
  | inl e ↦
      let f = eqb-true b.base a e in
      let h : at < a + length b.bytes = rw e at high in
      or_left (inside b at) (within bs at) (spans-from b.base (length b.bytes) at (omega arith) (omega arith))
  | inr e ↦ or_right (inside b at) (within bs at) (within-contents bs a at low (rw e at high))
]

sound-contents : (bs : List Outstanding) (a : ℕ) → Lawful bs → 0 < length (contents bs a) → Sound (record { base = a; bytes = contents bs a })
sound-contents [] a l some = absurd (omega arith)
sound-contents (b ∷ bs) a l some = elim (cases_Bool (b.base == a)) [
  | inl e ↦ rw e (subst (λ (x : ℕ). Sound (record { base = x; bytes = b.bytes })) (eqb-true b.base a e) l.0)
  | inr e ↦ rw e (sound-contents bs a l.2 (rw e at some))
]

-- two outstanding blocks share no address
separate : (bs : List Outstanding) (a c at : ℕ) → Lawful bs → (a ≢ c) → a ≤ at → at < a + length (contents bs a) → c ≤ at → at < c + length (contents bs c) → ⊥
separate [] a c at l ne low high low' high' = omega arith
separate (b ∷ bs) a c at l ne low high low' high' = elim (cases_Bool (b.base == a)) [
  | inl e ↦
      let f = eqb-true b.base a e in
      let h : at < a + length b.bytes = rw e at high in
      let h' : at < c + length (contents bs c) = rw (contents-other b bs c (λ g. ne (sym f ∙ g))) at high' in
      true≢false (sym (within-contents bs c at low' h') ∙ l.1 at (spans-from b.base (length b.bytes) at (omega arith) (omega arith)))
  | inr e ↦ elim (cases_Bool (b.base == c)) [
    | inl e' ↦
        let f = eqb-true b.base c e' in
        let h' : at < c + length b.bytes = rw e' at high' in
        true≢false (sym (within-contents bs a at low (rw e at high)) ∙ l.1 at (spans-from b.base (length b.bytes) at (omega arith) (omega arith)))
    | inr e' ↦ separate bs a c at l.2 ne low (rw e at high) low' (rw e' at high')
  ]
]

pub usable-length : (bs : List Outstanding) (p : Place) → length (contents bs p.base) ≡ p.size → length (drop 16 (contents bs p.base)) ≡ p.size - 16
usable-length bs p e = length-drop 16 (contents bs p.base) ∙ ap (λ (n : ℕ). n - 16) e

all-full : (bs : List Outstanding) (ps : List Place) → Kept bs ps → memory.AllFull (olders bs ps)
all-full bs [] k = tt
all-full bs (p ∷ ps) k = (sym (usable-length bs p k.0), all-full bs ps k.2)

module _ (bs : List Outstanding) (l : Lawful bs) where
  clear : (p : Place) (mark : ℕ) (ps : List Place) → Differs p.base ps → Kept bs ps → memory.Apart (usable bs p mark) (olders bs ps)
  clear p mark [] d k at in' = refl
  clear p mark (q ∷ qs) d k at in' =
      or_from (memory.inside (usable bs q (q.size - 16)) at) (memory.within (olders bs qs) at)
      (elim (cases_Bool (memory.inside (usable bs q (q.size - 16)) at)) [
        | inl both ↦
            let x = spans-true (p.base + 16) (length (drop 16 (contents bs p.base))) at in' in
            let y = spans-true (q.base + 16) (length (drop 16 (contents bs q.base))) at both in
            let u = length-drop 16 (contents bs p.base) in
            let v = length-drop 16 (contents bs q.base) in
            absurd (separate bs p.base q.base at l d.0 (omega arith) (omega arith) (omega arith) (omega arith))
        | inr out ↦ out
      ])
      (clear p mark qs d.1 k.2 at in')

  high : (p : Place) → 16 ≤ p.size → length (contents bs p.base) ≡ p.size → p.base + 16 + length (drop 16 (contents bs p.base)) ≤ 2 ^ 48
  high p some e = let s = (sound-contents bs p.base l (omega arith)).high in let u = usable-length bs p e in omega arith

  olders-lawful : (ps : List Place) → Kept bs ps → rising ps ≡ true → memory.Lawful (olders bs ps)
  olders-lawful [] k r = tt
  olders-lawful (p ∷ ps) k r =
      let d = rise p ps r in
      let u = usable-length bs p k.0 in
      (omega arith, high p d.some k.0, clear p (p.size - 16) ps k.1 k.2, all-full bs ps k.2, olders-lawful ps k.2 d.older)

  pub memory-lawful : (ps : List Place) (used : ℕ) → Kept bs ps → rising ps ≡ true → used ≤ room ps → memory.Lawful (memory_of bs ps used)
  memory-lawful [] used k r m = tt
  memory-lawful (p ∷ ps) used k r m =
      let d = rise p ps r in
      let u = usable-length bs p k.0 in
      (omega arith, high p d.some k.0, clear p used ps k.1 k.2, all-full bs ps k.2, olders-lawful ps k.2 d.older)
