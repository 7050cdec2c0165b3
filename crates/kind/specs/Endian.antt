-- A number and its bytes, at every width.
use Rattle.std.proofs.Common.{◌≡◌, ℕ, zero, suc, ◌+◌, ◌-◌, ◌*◌, ◌/◌, ◌%◌, ◌^◌, ◌<◌, ◌≤◌, List, [], ◌∷◌, ◌++◌, length, get_or, take, drop, refl, ap, ◌∙◌, inl, inr, subst, sym, mod-lt, mod-eq_of_lt, pow-suc, arith, lit<, drop-cons}
use native.Mathlib.Nat.{pow-zero, div-add-mod, div-div-eq-div-mul}
use Rattle.std.proofs.lemmas.List.{drop_all, get_or_past, drop-take, take-take}
use Rattle.std.proofs.lemmas.Bool.{cases_lt}
use Rattle.kind.specs.Bytes.{little_endian, number, AllBytes}

pub length-little_endian : (width n : ℕ) → length (little_endian width n) ≡ width
length-little_endian zero n = refl
length-little_endian (suc width) n = ap suc (length-little_endian width (n / 256))

pub bytes-little_endian : (width n : ℕ) → AllBytes (little_endian width n)
bytes-little_endian zero n = tt
bytes-little_endian (suc width) n = (mod-lt n (lit< tt), bytes-little_endian width (n / 256))

pub bytes-append : (xs ys : List ℕ) → AllBytes xs → AllBytes ys → AllBytes (xs ++ ys)
bytes-append [] ys bytes more = more
bytes-append (x ∷ xs) ys (small, bytes) more = (small, bytes-append xs ys bytes more)

pub number-little_endian : (width n : ℕ) → n < 256 ^ width → number (little_endian width n) ≡ n
number-little_endian zero n less = omega (arith, pow-zero 256)
number-little_endian (suc width) n less =
    let rest : n / 256 < 256 ^ width = omega (arith, pow-suc 256 width) in
    omega (arith, number-little_endian width (n / 256) rest, div-add-mod n 256)

-- a number packed and read again, with its limit
pub number-packed : (width k n : ℕ) → 2 ^ k ≡ 256 ^ width → n < 2 ^ k → number (little_endian width n) % 2 ^ k ≡ n
number-packed width k n same less =
    let whole = number-little_endian width n (subst (λ m. n < m) same less) in
    ap (λ m. m % 2 ^ k) whole ∙ mod-eq_of_lt less

-- a number that was read is below its limit
pub limited : (k r v : ℕ) → r < 2 ^ k → r ≡ v → r ≡ v % 2 ^ k
limited k r v less e = e ∙ sym (mod-eq_of_lt (subst (λ n. n < 2 ^ k) e less))

take-none : (n : ℕ) → number (take n []) ≡ 0
take-none zero = refl
take-none (suc n) = refl

-- the bytes of a part, read one by one
pub number-part : (bs : List ℕ) (k n : ℕ) → number (take (suc n) (drop k bs)) ≡ get_or bs k 0 + 256 * number (take n (drop (suc k) bs))
number-part bs k n = elim (cases_lt k (length bs)) [
  | inl less ↦ ap (λ xs. number (take (suc n) xs)) (drop-cons bs k 0 less)
  | inr past ↦
      let none = drop_all k bs past in
      let none' : drop (suc k) bs ≡ [] = drop_all (suc k) bs (omega arith) in
      let nil : number (take n []) ≡ 0 = take-none n in
      ap (λ xs. number (take (suc n) xs)) none ∙ omega (arith, get_or_past bs k 0 past, ap (λ xs. number (take n xs)) none', nil)
]

-- a part of the front of a buffer is that part of the buffer
pub part-front : (bs : List ℕ) (k n w : ℕ) → k + n ≤ w → take n (drop k (take w bs)) ≡ take n (drop k bs)
part-front bs k n w inside =
    let is : w ≡ k + (w - k) = omega arith in
    let short : n ≤ w - k = omega arith in
    ap (λ j. take n (drop k (take j bs))) is ∙ ap (λ xs. take n xs) (drop-take k (w - k) bs) ∙ take-take n (w - k) (drop k bs) short

-- the bytes as quotients, at four and at eight
pub le4 : (n : ℕ) → (n % 256) ∷ (n / 256 % 256) ∷ (n / 65536 % 256) ∷ (n / 16777216 % 256) ∷ [] ≡ little_endian 4 n
le4 n = simp div-div-eq-div-mul

pub le8 : (n : ℕ) → (n % 256) ∷ (n / 256 % 256) ∷ (n / 65536 % 256) ∷ (n / 16777216 % 256) ∷ (n / 4294967296 % 256) ∷ (n / 1099511627776 % 256) ∷ (n / 281474976710656 % 256) ∷ (n / 72057594037927936 % 256) ∷ [] ≡ little_endian 8 n
le8 n = simp div-div-eq-div-mul
