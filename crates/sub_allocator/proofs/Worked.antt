-- The worked figures hold.
use Rattle.std.proofs.Common.{◌≡◌, ℕ, ◌-◌, ◌%◌, ◌≤◌, min, true, List, [], ◌∷◌, length, take, Ok, Err, refl, ap, subst, arith, length-take}
use Rattle.std.proofs.lemmas.Bool.{le-leb, leb-true}
use Rattle.allocator.specs.Memory.{Memory, fits}
use Rattle.allocator.specs.Answers.{Push, Pop}
use Rattle.sub_allocator.specs.Buffers.{room, fixed}
use Rattle.sub_allocator.specs.Figures.{AtOne, LandsAtEight, BufferFigures}
use Rattle.allocator.specs.declared.fault.Fault.TheVariants.{DoesNotFit}
use Rattle.allocator.specs.declared.fault.Cause.TheVariants.{FixedBuffer}
use Rattle.allocator.proofs.Laws.{push-fits}
use Rattle.allocator.proofs.Powers.{divides-from-aligning}

-- an empty buffer has nothing taken
abbrev buffer_at : ℕ → ℕ → List ℕ → Memory
buffer_at base mark bytes = record { base = base; mark = mark; bytes = take 140737488355328 bytes } ∷ []

at-start : (base : ℕ) (bytes : List ℕ) → fixed base 0 bytes ≡ buffer_at (base % 140737488355328) 0 bytes
at-start base bytes = let none : min 0 (room bytes) ≡ 0 = omega arith in ap (λ n. buffer_at (base % 140737488355328) n bytes) none

long : (bytes : List ℕ) → length bytes ≤ 140737488355328 → length (take 140737488355328 bytes) ≡ length bytes
long bytes short = let e = length-take 140737488355328 bytes in omega arith

served : AtOne 15 (Ok 8)
served bytes r m' many push alone =
    let e = long bytes (omega arith) in
    let push' = subst (λ m. Push m 8 8 r m') (at-start 1 bytes) push in
    (push-fits (buffer_at 1 0 bytes) 8 8 r m' (le-leb 15 (length (take 140737488355328 bytes) - 0) (omega arith)) push').0

unserved : (bytes : List ℕ) → length bytes ≡ 14 → fits (fixed 1 0 bytes) 8 8 ≡ true → ⊥
unserved bytes many fit =
    let e = long bytes (omega arith) in
    let fit' = subst (λ m. fits m 8 8 ≡ true) (at-start 1 bytes) fit in
    omega (arith, e, leb-true 15 (length (take 140737488355328 bytes) - 0) fit')

short : AtOne 14 (Err (DoesNotFit FixedBuffer))
short bytes (Ok at) m' many push alone = absurd (unserved bytes many alone)
short bytes (Err fault) m' many push alone = ap Err alone

lands : LandsAtEight
lands bytes r₁ r₂ r₄ r₃ m₁ m₂ m₃ m₄ many first second pop third =
    let e = length-take 140737488355328 bytes in
    let n = length (take 140737488355328 bytes) in
    let p₁ = push-fits (buffer_at 0 0 bytes) 1 1 r₁ m₁ (le-leb 1 (n - 0) (omega arith)) (subst (λ m. Push m 1 1 r₁ m₁) (at-start 0 bytes) first) in
    let p₂ = push-fits (buffer_at 0 1 bytes) 8 8 r₂ m₂ (le-leb 15 (n - 1) (omega arith)) (subst (λ m. Push m 8 8 r₂ m₂) p₁.1 second) in
    let pop' = subst (λ m. Pop m 8 r₃ m₃) p₂.1 pop in
    let p₄ = push-fits (buffer_at 0 8 bytes) 1 1 r₄ m₄ (le-leb 1 (n - 8) (omega arith)) (subst (λ m. Push m 1 1 r₄ m₄) pop'.after third) in
    (p₁.0, p₂.0, pop'.answer, p₄.0)

pub worked : BufferFigures
worked =
    record {
      served = served;
      short = short;
      lands = lands;
      largest = ((omega arith, omega arith), ((12, refl), omega arith));
      larger = λ sized. omega (arith, sized);
      coarser = λ aligning. omega (arith, aligning.1);
      odd = λ aligning. let z : ◌≡◌ {A = ℕ} 1 0 = divides-from-aligning 3 aligning in omega arith;
    }
