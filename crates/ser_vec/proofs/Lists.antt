-- The list of a vector's elements, before and after bytes are stored.
use Rattle.std.proofs.Common.{◌≡◌, ℕ, suc, ◌+◌, ◌-◌, ◌*◌, ◌<◌, ◌≤◌, ◌⊎◌, List, [], ◌∷◌, ◌++◌, map, length, get_or, set, sym, ap, ◌∙◌, inl, inr, mul-le-mul_right, suc-mul, add-mul, one-mul, zero-mul, arith, length-set}
use Rattle.std.specs.List.{range_with_len}
use Rattle.std.proofs.lemmas.List.FromFn.{length-map-range_with_len, get_or-map-range_with_len, fill_by_all}
use Rattle.std.proofs.lemmas.List.{same_lists, length-append, get_or_append_left, get_or-append_right, get_or-set_same, get_or-set_other}
use Rattle.std.proofs.lemmas.Bool.{cases_lt, cases_eq}
use Rattle.allocator.specs.Memory.{Memory, byte_at}
use Rattle.kind.specs.declared.Kind as kinds
use Rattle.ser_vec.specs.Elements.{bytes_at, element_at, packings}
use Rattle.ser_vec.proofs.Packings.{joined-at}

-- lists made of the same function
map-same : {X : Type 0} (f g : ℕ → X) (n : ℕ) → ((k : ℕ) → k < n → f k ≡ g k) → map f (range_with_len 0 n) ≡ map g (range_with_len 0 n)
map-same f g n same =
    same_lists (map f (range_with_len 0 n)) (map g (range_with_len 0 n)) (length-map-range_with_len f 0 n ∙ sym (length-map-range_with_len g 0 n))
    (λ k d less.
    let less' : k < n = omega (arith, length-map-range_with_len f 0 n) in
    get_or-map-range_with_len f 0 n k k d less' (omega arith) ∙ same k less' ∙ sym (get_or-map-range_with_len g 0 n k k d less' (omega arith)))

module _ {K : Type 0} (kind : kinds.Ghosts K) (exact : (x : K) → length (kind.packed x) ≡ kind.wide) (again : (x : K) → kind.unpacked (kind.packed x) ≡ x) where
  abbrev w : ℕ
  w = kind.wide

  -- an element none of whose bytes changed
  kept : (m m' : Memory) (at i : ℕ) → ((to : ℕ) → at + i * w ≤ to → to < at + i * w + w → byte_at m' to ≡ byte_at m to) → element_at kind m' at i ≡ element_at kind m at i
  kept m m' at i same = ap kind.unpacked (map-same (λ r. byte_at m' (at + i * w + r)) (λ r. byte_at m (at + i * w + r)) w (λ r less. same (at + i * w + r) (omega arith) (omega arith)))

  -- one whose packing stands there
  laid-element : (m' : Memory) (start : ℕ) (xs : List K) → ((k : ℕ) → k < length xs * w → byte_at m' (start + k) ≡ get_or (packings kind xs) k 0) →
      (q : ℕ) (d : K) → q < length xs → kind.unpacked (bytes_at m' (start + q * w) w) ≡ get_or xs q d
  laid-element m' start xs there q d less =
      let y = get_or xs q d in
      let whole : kind.packed y ≡ bytes_at m' (start + q * w) w =
      fill_by_all (λ r. byte_at m' (start + q * w + r)) (kind.packed y) w 0 (exact y)
      (λ r short.
      let inside : q * w + r < length xs * w = omega (arith, suc-mul q w, mul-le-mul_right w less) in
      let place : start + (q * w + r) ≡ start + q * w + r = omega arith in
      sym (joined-at kind.packed w exact xs q r d less short) ∙ sym (there (q * w + r) inside) ∙ ap (λ a. byte_at m' a) place) in
      ap kind.unpacked (sym whole) ∙ again y

  module _ (m m' : Memory) (at len : ℕ) where
    pub elements-kept : ((to : ℕ) → to < at + len * w → byte_at m' to ≡ byte_at m to) → map (element_at kind m' at) (range_with_len 0 len) ≡ map (element_at kind m at) (range_with_len 0 len)
    elements-kept below =
        map-same (element_at kind m' at) (element_at kind m at) len
        (λ k less. kept m m' at k (λ to low high. below to (omega (arith, suc-mul k w, mul-le-mul_right w less))))

    pub elements-extended : (xs : List K) → ((k : ℕ) → k < length xs * w → byte_at m' (at + len * w + k) ≡ get_or (packings kind xs) k 0) →
        ((to : ℕ) → to < at + len * w → byte_at m' to ≡ byte_at m to) →
        map (element_at kind m' at) (range_with_len 0 (len + length xs)) ≡ map (element_at kind m at) (range_with_len 0 len) ++ xs
    elements-extended xs there below =
        let f' = element_at kind m' at in
        let f = element_at kind m at in
        let lf : length (map f (range_with_len 0 len)) ≡ len = length-map-range_with_len f 0 len in
        same_lists (map f' (range_with_len 0 (len + length xs))) (map f (range_with_len 0 len) ++ xs)
        (length-map-range_with_len f' 0 (len + length xs) ∙ sym (length-append (map f (range_with_len 0 len)) xs ∙ ap (λ n. n + length xs) lf))
        (λ k d less.
        let less' : k < len + length xs = omega (arith, length-map-range_with_len f' 0 (len + length xs)) in
        get_or-map-range_with_len f' 0 (len + length xs) k k d less' (omega arith) ∙ elim (cases_lt k len) [
          | inl before ↦
              let short : k < length (map f (range_with_len 0 len)) = omega (arith, lf) in
              kept m m' at k (λ to low high. below to (omega (arith, suc-mul k w, mul-le-mul_right w before)))
              ∙ sym (get_or_append_left (map f (range_with_len 0 len)) xs d k short ∙ get_or-map-range_with_len f 0 len k k d before (omega arith))
          | inr past ↦
              let q = k - len in
              let is : k ≡ len + q = omega arith in
              let place : at + k * w ≡ at + len * w + q * w = omega (arith, ap (λ n. n * w) is, add-mul len q w) in
              ap (λ a. kind.unpacked (bytes_at m' a w)) place ∙ laid-element m' (at + len * w) xs there q d (omega arith)
              ∙ sym (get_or-append_right (map f (range_with_len 0 len)) xs len k d lf past)
        ])

    module _ (i : ℕ) (elsewhere : (to : ℕ) → (to < at + i * w) ⊎ (at + i * w + 1 * w ≤ to) → byte_at m' to ≡ byte_at m to) where
      pub others-kept : (k : ℕ) → k < len → (k ≡ i → ⊥) → element_at kind m' at k ≡ element_at kind m at k
      others-kept k less ne = kept m m' at k (λ to low high. elsewhere to (elim (cases_lt k i) [
        | inl before ↦ inl (omega (arith, suc-mul k w, mul-le-mul_right w before))
        | inr past ↦ inr (omega (arith, suc-mul i w, one-mul w, (let more : suc i ≤ k = omega arith in mul-le-mul_right w more)))
      ]))

      pub elements-replaced : (x : K) → i < len → ((k : ℕ) → k < 1 * w → byte_at m' (at + i * w + k) ≡ get_or (packings kind (x ∷ [])) k 0) →
          map (element_at kind m' at) (range_with_len 0 len) ≡ set (map (element_at kind m at) (range_with_len 0 len)) i x
      elements-replaced x inside there =
          let f' = element_at kind m' at in
          let f = element_at kind m at in
          let lf : length (map f (range_with_len 0 len)) ≡ len = length-map-range_with_len f 0 len in
          let at_i : f' i ≡ x =
          let place : at + i * w ≡ at + i * w + 0 * w = omega (arith, zero-mul w) in
          ap (λ a. kind.unpacked (bytes_at m' a w)) place ∙ laid-element m' (at + i * w) (x ∷ []) there 0 x (omega arith) in
          same_lists (map f' (range_with_len 0 len)) (set (map f (range_with_len 0 len)) i x)
          (length-map-range_with_len f' 0 len ∙ sym (length-set (map f (range_with_len 0 len)) i x ∙ lf))
          (λ k d less.
          let less' : k < len = omega (arith, length-map-range_with_len f' 0 len) in
          get_or-map-range_with_len f' 0 len k k d less' (omega arith) ∙ elim (cases_eq k i) [
            | inl e ↦
                let short : i < length (map f (range_with_len 0 len)) = omega (arith, lf) in
                ap f' e ∙ at_i ∙ sym (ap (λ j. get_or (set (map f (range_with_len 0 len)) i x) j d) e ∙ get_or-set_same (map f (range_with_len 0 len)) i x d short)
            | inr ne ↦
                others-kept k less' ne ∙ sym (get_or-set_other (map f (range_with_len 0 len)) i k x d ne ∙ get_or-map-range_with_len f 0 len k k d less' (omega arith))
          ])
