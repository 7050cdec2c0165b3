-- What a region stands for, which requests it grants, and that its blocks are lawful.
use Rattle.std.specs.Prelude.{◌≡◌, ℕ, ◌+◌, ◌-◌, ◌%◌, ◌<◌, ◌≤◌, min, true, false, cond, ◌&&◌, List, [], ◌∷◌, length, take, drop, Some, None, Option, Ok, Err, Result, slice_set, refl}
use Rattle.std.proofs.Common.{◌∙◌, arith, length-take, length-drop}
use Rattle.std.proofs.lemmas.Bool.{and_parts, or_from}
use Rattle.std.proofs.lemmas.Bool.Decides.{nat_tests}
use Rattle.allocator.specs.Memory.{spans}
use Rattle.source.specs.Answers.{sized}
use Rattle.source.specs.Blocks.{Source, Outstanding, Place, Lawful, places, within}
use Rattle.source.specs.declared.fault.SourceFault.{SourceFault}
use Rattle.source.specs.declared.request.Request.{Request}
use Rattle.region.specs.Places.{chain, covers, apart, free, stands, keeps, Lowest}
use Rattle.region.specs.declared.slot.Slot.{Slot}

-- how many bytes of a buffer a region uses
abbrev pub usable : ℕ → ℕ
usable n = min n 67108864

-- the block at a place, with its bytes of the buffer
abbrev pub cut_out : List ℕ → Place → Outstanding
cut_out bytes p = record { base = p.base; bytes = take p.size (drop (p.base - 4096) bytes) }

abbrev pub cuts_out : List ℕ → List Place → List Outstanding
cuts_out bytes [] = []
cuts_out bytes (p ∷ ps) = cut_out bytes p ∷ cuts_out bytes ps

abbrev pub blocks : List ℕ → List Slot → List Outstanding
blocks bytes slots = cuts_out bytes (chain slots)

abbrev pub region : List ℕ → List Slot → ℕ → Option Request → Source
region bytes slots requests last = record { blocks = blocks bytes slots; requests = requests; last = last }

-- A request is granted at the lowest place that serves. It is refused where none does, and where 32 blocks are out.
abbrev pub Answers : ℕ → List Place → ℕ → Result ℕ SourceFault → Type 0
Answers len ps size (Ok at) = (length ps < 32) × Lowest len ps size (Some at)
Answers len ps size (Err fault) = length ps < 32 → Lowest len ps size None

abbrev pub Cuts : ℕ → Source → ℕ → Result ℕ SourceFault → Type 0
Cuts len s size r = sized size ≡ true → Answers len (places s.blocks) size r

-- the whole buffer after a store
abbrev pub stored_in : List ℕ → Source → ℕ → ℕ → List ℕ
stored_in bytes s at byte = cond (within s.blocks at) (slice_set bytes (at - 4096) byte) bytes

pub record Stands (len : ℕ) (p : Place) : Type 0 where
  pub some : 0 < p.size
  pub low : 4096 ≤ p.base
  pub high : p.base + p.size ≤ 4096 + len
  pub eighth : p.base % 8 ≡ 0

pub standing : (len : ℕ) (p : Place) → stands len p ≡ true → Stands len p
standing len p s = record { some = grind (arith, nat_tests); low = grind (arith, nat_tests); high = grind (arith, nat_tests); eighth = grind (arith, nat_tests) }

pub record Parts (len : ℕ) (p : Place) (ps : List Place) : Type 0 where
  pub stands : Stands len p
  pub free : free ps p ≡ true
  pub older : keeps len ps ≡ true

pub parts : (len : ℕ) (p : Place) (ps : List Place) → keeps len (p ∷ ps) ≡ true → Parts len p ps
parts len p ps k =
    let a = and_parts (stands len p) (free ps p && keeps len ps) k in
    let b = and_parts (free ps p) (keeps len ps) a.1 in
    record { stands = standing len p a.0; free = b.0; older = b.1 }

outside : (p q : Place) (at : ℕ) → apart q p ≡ true → spans p.base p.size at ≡ true → spans q.base q.size at ≡ false
outside p q at beside in' = grind (arith, nat_tests)

clear : (p : Place) (ps : List Place) → free ps p ≡ true → (at : ℕ) → spans p.base p.size at ≡ true → covers ps at ≡ false
clear p [] f at in' = refl
clear p (q ∷ qs) f at in' =
    let a = and_parts (apart q p) (free qs p) f in
    or_from (spans q.base q.size at) (covers qs at) (outside p q at a.0 in') (clear p qs a.1 at in')

module _ (bytes : List ℕ) where
  pub cut-length : (p : Place) → Stands (usable (length bytes)) p → length (take p.size (drop (p.base - 4096) bytes)) ≡ p.size
  cut-length p s =
      length-take p.size (drop (p.base - 4096) bytes) ∙ (let l = length-drop (p.base - 4096) bytes in let low = s.low in let high = s.high in omega arith)

  pub within-cuts : (ps : List Place) (at : ℕ) → keeps (usable (length bytes)) ps ≡ true → within (cuts_out bytes ps) at ≡ covers ps at
  within-cuts [] at k = refl
  within-cuts (p ∷ ps) at k =
      let a = parts (usable (length bytes)) p ps k in
      let l = cut-length p a.stands in
      rw (l, within-cuts ps at a.older)

  pub lawful-cuts : (ps : List Place) → keeps (usable (length bytes)) ps ≡ true → Lawful (cuts_out bytes ps)
  lawful-cuts [] k = tt
  lawful-cuts (p ∷ ps) k =
      let a = parts (usable (length bytes)) p ps k in
      let s = a.stands in
      let l = cut-length p s in (
        record { some = (let x = s.some in omega arith); eighth = s.eighth; high = (let x = s.high in omega arith) },
        (λ at in'. within-cuts ps at a.older ∙ clear p ps a.free at (rw l at in')),
        lawful-cuts ps a.older,
      )
