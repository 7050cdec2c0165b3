-- The pad is the least number that brings an address to a multiple of the alignment.
use Rattle.std.proofs.Common.{◌≡◌, ℕ, ◌+◌, ◌-◌, ◌*◌, ◌/◌, ◌%◌, ◌<◌, ◌≤◌, ap, ◌∙◌, inl, inr, mod-lt, mod-eq_of_lt, mul-le-mul_left, mul-one, mul-add, arith}
use native.Mathlib.Nat.{div-add-mod, mod_self, mul-mod_right, lt_of_mul-lt-mul_left}
use Rattle.std.proofs.lemmas.Bool.{cases_lt}
use Rattle.allocator.specs.Layouts.{Aligned, pad, LeastPad}

module _ (at align : ℕ) (some : 0 < align) where
  pub pad-lt : pad at align < align
  pad-lt = mod-lt (align - at % align) some

  -- none where the address is aligned
  pub pad-aligned : Aligned at align → pad at align ≡ 0
  pad-aligned flat =
      let whole : align - at % align ≡ align = omega arith in
      ap (λ n. n % align) whole ∙ mod_self align

  -- else up to the multiple after the one below
  next : 0 < at % align → at + pad at align ≡ align * (at / align + 1)
  next above =
      let is : pad at align ≡ align - at % align = let short : align - at % align < align = omega arith in mod-eq_of_lt short in
      omega (arith, is, div-add-mod at align, mod-lt at some, mul-add align (at / align) 1, mul-one align)

  pub pad-aligns : Aligned (at + pad at align) align
  pad-aligns = elim (cases_lt 0 (at % align)) [
    | inl above ↦ ap (λ n. n % align) (next above) ∙ mul-mod_right align (at / align + 1)
    | inr flat ↦
        let zr : at % align ≡ 0 = omega arith in
        let same : at + pad at align ≡ at = omega (arith, pad-aligned zr) in
        ap (λ n. n % align) same ∙ zr
  ]

  pub pad-least : (q : ℕ) → Aligned (at + q) align → pad at align ≤ q
  pad-least q multiple = elim (cases_lt 0 (at % align)) [
    | inl above ↦
        let less : align * (at / align) < align * ((at + q) / align) = omega (arith, div-add-mod at align, div-add-mod (at + q) align) in
        let later : at / align < (at + q) / align = lt_of_mul-lt-mul_left align less in
        let more : at / align + 1 ≤ (at + q) / align = omega arith in
        omega (arith, next above, mul-le-mul_left align more, div-add-mod (at + q) align)
    | inr flat ↦ let zr : at % align ≡ 0 = omega arith in omega (arith, pad-aligned zr)
  ]

  pub least-pad : LeastPad at align (pad at align)
  least-pad = record { aligned = pad-aligns; least = pad-least }
