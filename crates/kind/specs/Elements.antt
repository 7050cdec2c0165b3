-- Elements of the same numbers are the same, and numbers in a buffer are the sums of its bytes.
use Rattle.std.proofs.Common.{◌≡◌, ℕ, suc, ◌+◌, ◌*◌, ◌^◌, ◌<◌, ◌≤◌, List, get_or, take, drop, sym, ap, ◌∙◌, arith, lit≤}
use Rattle.kind.specs.Bytes.{number}
use Rattle.kind.specs.Endian.{number-part, part-front}
use Rattle.kind.specs.Packings.{cue, made-same}
use Rattle.kind.specs.declared.element.Byte.{Byte}
use Rattle.kind.specs.declared.element.Position.{Position}

pub byte-same : {a b : ℕ} → a ≡ b → (p : a < 2 ^ 8) (q : b < 2 ^ 8) → ◌≡◌ {A = Byte} (record { value = a; fits = p }) (record { value = b; fits = q })
byte-same e p q = let made : (n : ℕ) → n < 2 ^ 8 → Byte = λ n h. record { value = n; fits = h } in made-same 8 made e p q

pub position-same : {a b : ℕ} → a ≡ b → (p : a < 2 ^ 32) (q : b < 2 ^ 32) → ◌≡◌ {A = Position} (record { at = a; fits = p }) (record { at = b; fits = q })
position-same e p q = let made : (n : ℕ) → n < 2 ^ 32 → Position = λ n h. record { at = n; fits = h } in made-same 32 made e p q

pub cue-same : {s l t s' l' t' : ℕ} → s ≡ s' → l ≡ l' → t ≡ t' → (p : s < 2 ^ 64) (q : l < 2 ^ 32) (r : t < 2 ^ 32) (p' : s' < 2 ^ 64) (q' : l' < 2 ^ 32) (r' : t' < 2 ^ 32) → cue s p l q t r ≡ cue s' p' l' q' t' r'
cue-same {s = s} {l = l} {t = t} {s' = s'} {l' = l'} es el et p q r p' q' r' =
    ap (λ (f : (n : ℕ) → n < 2 ^ 32 → (m : ℕ) → m < 2 ^ 32 → _). f l q t r) (made-same 64 cue es p p')
    ∙ ap (λ (f : (n : ℕ) → n < 2 ^ 32 → _). f t r) (made-same 32 (cue s' p') el q q')
    ∙ made-same 32 (cue s' p' l' q') et r r'

-- one, four and eight bytes of a buffer
pub one : (bs : List ℕ) → get_or bs 0 0 ≡ number (take 1 (take 1 bs))
one bs = sym (ap number (part-front bs 0 1 1 (lit≤ tt)) ∙ omega (arith, number-part bs 0 0))

module _ (bs : List ℕ) (k w : ℕ) where
  from4 : number (take 4 (drop k bs)) ≡ get_or bs k 0 + get_or bs (suc k) 0 * 256 + get_or bs (suc (suc k)) 0 * 65536 + get_or bs (suc (suc (suc k))) 0 * 16777216
  from4 =
      omega (arith, number-part bs k 3, number-part bs (suc k) 2, number-part bs (suc (suc k)) 1, number-part bs (suc (suc (suc k))) 0)

  pub four : k + 4 ≤ w →
      get_or bs k 0 + get_or bs (suc k) 0 * 256 + get_or bs (suc (suc k)) 0 * 65536 + get_or bs (suc (suc (suc k))) 0 * 16777216 ≡ number (take 4 (drop k (take w bs)))
  four inside = sym (ap number (part-front bs k 4 w inside) ∙ from4)

pub eight : (bs : List ℕ) (w : ℕ) → 8 ≤ w →
    get_or bs 0 0 + get_or bs 1 0 * 256 + get_or bs 2 0 * 65536 + get_or bs 3 0 * 16777216 + get_or bs 4 0 * 4294967296 + get_or bs 5 0 * 1099511627776 + get_or bs 6 0 * 281474976710656 + get_or bs 7 0 * 72057594037927936
    ≡ number (take 8 (take w bs))
eight bs w inside =
    omega (arith, number-part bs 0 7, number-part bs 1 6, number-part bs 2 5, number-part bs 3 4, from4 bs 4 w, ap number (part-front bs 0 8 w inside))
