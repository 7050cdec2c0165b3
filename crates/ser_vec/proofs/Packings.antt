-- The packings of some elements, byte by byte.
use Rattle.std.proofs.Common.{◌≡◌, ℕ, zero, suc, ◌+◌, ◌*◌, ◌<◌, List, [], ◌∷◌, ◌++◌, length, get_or, ap, ◌∙◌, suc-mul, zero-mul, arith}
use Rattle.std.specs.List.{flat_map}
use Rattle.std.proofs.lemmas.List.{get_or_append_left, get_or-append-add}

module _ {K : Type 0} (packed : K → List ℕ) (w : ℕ) (exact : (x : K) → length (packed x) ≡ w) where
  pub joined-at : (xs : List K) (q r : ℕ) (d : K) → q < length xs → r < w → get_or (flat_map packed xs) (q * w + r) 0 ≡ get_or (packed (get_or xs q d)) r 0
  joined-at [] q r d less less' = absurd (omega arith)
  joined-at (x ∷ xs) zero r d less less' =
      let short : r < length (packed x) = omega (arith, exact x) in
      let is : 0 * w + r ≡ r = omega (arith, zero-mul w) in
      ap (λ n. get_or (packed x ++ flat_map packed xs) n 0) is ∙ get_or_append_left (packed x) (flat_map packed xs) 0 r short
  joined-at (x ∷ xs) (suc q) r d less less' =
      let is : suc q * w + r ≡ length (packed x) + (q * w + r) = omega (arith, exact x, suc-mul q w) in
      ap (λ n. get_or (packed x ++ flat_map packed xs) n 0) is ∙ get_or-append-add (packed x) (flat_map packed xs) (q * w + r) 0 ∙ joined-at xs q r d (omega arith) less'
