-- The blocks of a region are windows of its buffer.
use Rattle.std.proofs.Common.{◌≡◌, ℕ, ◌+◌, ◌-◌, ◌≤◌, Bool, true, cond, ◌||◌, eqb, List, [], ◌∷◌, length, get_or, take, drop, set, sym, refl, ap, ◌∙◌, inl, inr, arith}
use Rattle.std.proofs.lemmas.List.{take-set-le, drop-set-lt, drop-set-add, get_or-take, get_or-drop}
use Rattle.std.proofs.Math.Seq.{take-set-lt}
use Rattle.std.proofs.lemmas.Bool.{cases_lt, cases_Bool, true≢false}
use Rattle.std.proofs.lemmas.Bool.Decides.{nat_tests}
use Rattle.allocator.specs.Memory.{spans}
use Rattle.allocator.proofs.Spans.{spans-true, spans-from, spans-before, spans-past}
use Rattle.source.specs.Blocks.{Outstanding, Place, places, without, starts, byte_at, stored}
use Rattle.region.specs.Places.{covers, begins, leaving, keeps}
use Rattle.region.specs.Regions.{usable, cut_out, cuts_out, parts, cut-length}

-- a byte that is written to a buffer, seen through a window of it
window-set : (n k : ℕ) (l : List ℕ) (i v : ℕ) → take n (drop k (set l i v)) ≡ cond (spans k n i) (set (take n (drop k l)) (i - k) v) (take n (drop k l))
window-set n k l i v =
    elim (cases_lt i k) [
      | inl before ↦ rw (spans-before k n i before) (ap (λ (r : List ℕ). take n r) (drop-set-lt k l i v before))
      | inr from ↦
          let j : k + (i - k) ≡ i = omega arith in
          let d : drop k (set l i v) ≡ set (drop k l) (i - k) v = ap (λ (m : ℕ). drop k (set l m v)) (sym j) ∙ drop-set-add k l (i - k) v in
          elim (cases_lt i (k + n)) [
            | inl under ↦ rw (spans-from k n i from under) (ap (λ (r : List ℕ). take n r) d ∙ take-set-lt n (drop k l) (i - k) v (omega arith))
            | inr past ↦ rw (spans-past k n i past) (ap (λ (r : List ℕ). take n r) d ∙ take-set-le n (drop k l) (i - k) v (omega arith))
          ]
    ]

-- the same, by addresses
shifted : (base size at : ℕ) → 4096 ≤ base → 4096 ≤ at → spans (base - 4096) size (at - 4096) ≡ spans base size at
shifted base size at low low' = grind (arith, nat_tests)

module _ (bytes : List ℕ) where
  pub stored-cuts : (ps : List Place) (at v : ℕ) → keeps (usable (length bytes)) ps ≡ true → 4096 ≤ at → cuts_out (set bytes (at - 4096) v) ps ≡ stored (cuts_out bytes ps) at v
  stored-cuts [] at v k lo = refl
  stored-cuts (p ∷ ps) at v k lo =
      let a = parts (usable (length bytes)) p ps k in
      let l = cut-length bytes p a.stands in
      let w = window-set p.size (p.base - 4096) bytes (at - 4096) v in
      let low = a.stands.low in
      let s = shifted p.base p.size at low lo in
      let t : spans p.base p.size at ≡ true → at - 4096 - (p.base - 4096) ≡ at - p.base = (λ i. omega (arith, (spans-true p.base p.size at i).0)) in
      let r = stored-cuts ps at v a.older lo in
      rw (l, r, w, s)
      (elim (cases_Bool (spans p.base p.size at)) [ inl e ↦ rw (e, t e) refl | inr e ↦ rw e refl ])

  pub byte-cuts : (ps : List Place) (at : ℕ) → keeps (usable (length bytes)) ps ≡ true → covers ps at ≡ true → byte_at (cuts_out bytes ps) at ≡ get_or bytes (at - 4096) 0
  byte-cuts [] at k c = absurd (true≢false (sym c))
  byte-cuts (p ∷ ps) at k c =
      let a = parts (usable (length bytes)) p ps k in
      let l = cut-length bytes p a.stands in
      let low = a.stands.low in
      rw l
      (elim (cases_Bool (spans p.base p.size at)) [
        | inl e ↦
            let q = spans-true p.base p.size at e in
            let from = q.0 in
            let under = q.1 in
            let j : p.base - 4096 + (at - p.base) ≡ at - 4096 = omega arith in
            rw e (get_or-take p.size (drop (p.base - 4096) bytes) (at - p.base) 0 (omega arith) ∙ (get_or-drop (p.base - 4096) bytes (at - p.base) 0 ∙ ap (λ (m : ℕ). get_or bytes m 0) j))
        | inr e ↦ rw e (byte-cuts ps at a.older (rw e at c))
      ])

  pub leaving-cuts : (ps : List Place) (at : ℕ) → cuts_out bytes (leaving ps at) ≡ without (cuts_out bytes ps) at
  leaving-cuts [] at = refl
  leaving-cuts (p ∷ ps) at = let r = leaving-cuts ps at in elim (cases_Bool (eqb p.base at)) [ inl e ↦ rw e r | inr e ↦ rw e (ap (λ (bs : List Outstanding). cut_out bytes p ∷ bs) r) ]

  pub begins-cuts : (ps : List Place) (at : ℕ) → begins ps at ≡ starts (cuts_out bytes ps) at
  begins-cuts [] at = refl
  begins-cuts (p ∷ ps) at = ap (λ (t : Bool). eqb p.base at || t) (begins-cuts ps at)

  -- the blocks lie where the slots say
  pub places-cuts : (ps : List Place) → keeps (usable (length bytes)) ps ≡ true → places (cuts_out bytes ps) ≡ ps
  places-cuts [] k = refl
  places-cuts (p ∷ ps) k =
      let a = parts (usable (length bytes)) p ps k in
      let l = cut-length bytes p a.stands in
      rw (l, places-cuts ps a.older)
