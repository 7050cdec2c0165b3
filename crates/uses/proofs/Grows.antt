-- A handle over every source grows as an arena does, and so does a tracker of it.
use Rattle.std.proofs.Common.{◌≡◌, ℕ, ◌+◌, ◌*◌, ◌^◌, max, Bool, true, ◌⊎◌, ◌∷◌, length, Ok, Err, Result, sym, refl, ap, ◌∙◌, inl, inr, arith}
use Rattle.std.proofs.lemmas.Bool.{cases_Bool, cases_lt}
use Rattle.allocator.specs.declared.fault.Fault.{Fault}
use Rattle.source.specs.Blocks.{Place}
use Rattle.source.specs.declared.BlockSource.{Ghosts}
use Rattle.arena.specs.Rings as rings
use Rattle.arena.specs.Rings.{rising, opened}
use Rattle.arena.specs.Powers.{least_power_of, wanted}
use Rattle.arena.specs.Meaning.{memory_of, Kept}
use Rattle.arena.specs.Arenas.{Arena}
use Rattle.arena.specs.Calls.{Grows, Pushes}
use Rattle.arena.specs.Views.{handle_of}
use Rattle.arena.proofs.Table.{least_power_of-least}
use Rattle.session.specs.Growth.{LeastPower, Grew, GrowsAsArena}
use Rattle.session.specs.Statistics.{tracked}
use Rattle.session.proofs.Uses.{tracked-grows}
use Rattle.uses.specs.Handles.{handle}
use Rattle.uses.proofs.Sizes.{length-memory, newest-memory}

least : (n : ℕ) → LeastPower n (least_power_of n)
least n =
    let l = least_power_of-least n in
    record { exponent = l.power.0; is = l.power.1; enough = l.above; least = λ other enough. l.least (2 ^ other) (other, refl) enough }

-- a push took no block
record Same (x x' : Arena) : Type 0 where
  blocks : x'.blocks ≡ x.blocks
  growths : x'.growths ≡ x.growths

-- or one of the size that it wanted
record More (x : Arena) (size align : ℕ) (x' : Arena) : Type 0 where
  block : Place
  first : x'.blocks ≡ block ∷ x.blocks
  many : block.size ≡ wanted (rings.newest_size x.blocks) size align
  counts : x'.growths ≡ x.growths + 1

same : (x x' : Arena) → x' ≡ x → Same x x'
same x x' e = record { blocks = ap (λ (y : Arena). y.blocks) e; growths = ap (λ (y : Arena). y.growths) e }

asked : (x x' : Arena) (size align : ℕ) (r : Result ℕ Fault) → Grows x (wanted (rings.newest_size x.blocks) size align) align r x' → Same x x' ⊎ More x size align x'
asked x x' size align (Ok at) g =
    inr (record {
      block = record { base = g.block; size = length g.bytes };
      first = ap (λ (y : Arena). y.blocks) g.after;
      many = g.many;
      counts = ap (λ (y : Arena). y.growths) g.after;
    })
asked x x' size align (Err fault) (is, e) = inl (record { blocks = ap (λ (y : Arena). y.blocks) e; growths = ap (λ (y : Arena). y.growths) e })

pushed : (x x' : Arena) (roomy : Bool) (size align : ℕ) (r : Result ℕ Fault) → Pushes x roomy size align r x' → Same x x' ⊎ More x size align x'
pushed x x' roomy size align r p = elim (cases_Bool roomy) [
  | inl room ↦ inl (same x x' (p.served room))
  | inr none ↦ elim (cases_Bool (opened x.blocks)) [
    | inl some ↦ elim (cases_lt 67108864 (wanted (rings.newest_size x.blocks) size align)) [
      | inl beyond ↦ inl (same x x' (p.beyond some none beyond).1)
      | inr within ↦ asked x x' size align r (p.asks some none within)
    ]
    | inr empty ↦ inl (same x x' (p.unopened empty).1)
  ]
]

grew : (x x' : Arena) (used used' size align : ℕ) → Kept x.source.blocks x.blocks → Kept x'.source.blocks x'.blocks → rising x.blocks ≡ true → rising x'.blocks ≡ true →
    Same x x' ⊎ More x size align x' → Grew (memory_of x.source.blocks x.blocks used) x.growths size align (memory_of x'.source.blocks x'.blocks used') x'.growths
grew x x' used used' size align k k' r r' (inl s) =
    let m = length-memory x.source.blocks x.blocks used in
    let m' = length-memory x'.source.blocks x'.blocks used' in
    (λ more. absurd (omega (arith, m, m', ap length s.blocks)), λ count. s.growths)
grew x x' used used' size align k k' r r' (inr s) =
    let m = length-memory x.source.blocks x.blocks used in
    let m' = length-memory x'.source.blocks x'.blocks used' in
    let n = newest-memory x.source.blocks x.blocks used k r in
    let n' = newest-memory x'.source.blocks x'.blocks used' k' r' in (
      λ more. (
        record {
          power = least_power_of (16 + size + align);
          large = least (16 + size + align);
          is = n' ∙ ap rings.newest_size s.first ∙ s.many ∙ ap (λ (last : ℕ). max (2 * last) (least_power_of (16 + size + align))) (sym n);
        },
        omega (arith, s.counts),
      ),
      λ count. absurd (omega (arith, m, m', ap length s.first)),
    )

pub handle-grows : {S : Type 0} (source : Ghosts S) → GrowsAsArena (handle source) (λ h. h.arena.growths)
handle-grows source =
    record {
      pushes = λ h h' size align r own.
          grew (handle_of source.state h) (handle_of source.state h') h.used h'.used size align h.arena.kept h'.arena.kept h.arena.ring.rises h'.arena.ring.rises
          (pushed (handle_of source.state h) (handle_of source.state h') _ size align r own.0);
      pops = λ h h' at size r own. ap (λ (y : Arena). y.growths) own.0;
      stores = λ h h' at byte r own. ap (λ (y : Arena). y.growths) own.0;
    }

pub tracker-grows : {S : Type 0} (source : Ghosts S) → GrowsAsArena (tracked (handle source)) (λ t. t.inner.arena.growths)
tracker-grows source = tracked-grows (handle source) (λ h. h.arena.growths) (handle-grows source)
