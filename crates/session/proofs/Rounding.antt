-- The next multiple of an alignment.
use Rattle.std.proofs.Common.{◌≡◌, ℕ, ◌+◌, ◌-◌, ◌<◌, ◌≤◌, subst, arith}
use native.Mathlib.Nat.{dvd_of_mod-eq-zero, mod-eq-zero_of_dvd, dvd_trans}
use Rattle.allocator.specs.Layouts.{Aligned, pad, Aligning}
use Rattle.allocator.proofs.Powers.{aligning-some, smaller-divides}
use Rattle.allocator.proofs.Pads.{pad-lt, pad-aligns, pad-least}

abbrev pub up : ℕ → ℕ → ℕ
up at align = at + pad at align

pub up-above : (at align : ℕ) → at ≤ up at align
up-above at align = omega arith

pub up-near : (at align : ℕ) → 0 < align → up at align ≤ at + (align - 1)
up-near at align some = omega (arith, pad-lt at align some)

up-least : (at align to : ℕ) → 0 < align → at ≤ to → Aligned to align → up at align ≤ to
up-least at align to some le multiple =
    let e : to ≡ at + (to - at) = omega arith in
    omega (arith, pad-least at align some (to - at) (subst (λ n. Aligned n align) e multiple))

-- the next multiple of a smaller alignment is not past one of a larger
pub up-within : (at from a b : ℕ) → Aligning a → Aligning b → a ≤ b → at ≤ up from b → up at a ≤ up from b
up-within at from a b ha hb le below =
    up-least at a (up from b) (aligning-some a ha) below
    (mod-eq-zero_of_dvd a (dvd_trans a (smaller-divides a b ha hb le) (dvd_of_mod-eq-zero b (pad-aligns from b (aligning-some b hb)))))
