-- Each element as its bytes, and as it is read from bytes: the same element again.
use Rattle.std.proofs.Common.{◌≡◌, ℕ, ◌%◌, ◌^◌, ◌<◌, List, ◌++◌, length, take, drop, refl, ap, ◌∙◌, subst}
use native.Mathlib.Bridge.{le_prop}
use Rattle.kind.specs.Bytes.{little_endian, number, below_power, AllBytes}
use Rattle.kind.specs.Endian.{number-packed, bytes-little_endian, bytes-append}
use Rattle.kind.specs.declared.element.Byte.{Byte}
use Rattle.kind.specs.declared.element.Position.{Position}
use Rattle.kind.specs.declared.element.Cue.{Cue}

abbrev pub byte_packed : Byte → List ℕ
byte_packed x = little_endian 1 x.value

abbrev pub position_packed : Position → List ℕ
position_packed x = little_endian 4 x.at

abbrev pub cue_packed : Cue → List ℕ
cue_packed x = little_endian 8 x.sample ++ (little_endian 4 x.length ++ little_endian 4 x.tag)

abbrev byte : (n : ℕ) → n < 2 ^ 8 → Byte
byte n p = record { value = n; fits = p }

abbrev position : (n : ℕ) → n < 2 ^ 32 → Position
position n p = record { at = n; fits = p }

abbrev pub cue : (sample : ℕ) → sample < 2 ^ 64 → (length : ℕ) → length < 2 ^ 32 → (tag : ℕ) → tag < 2 ^ 32 → Cue
cue sample p length q tag r = record { sample = sample; length = length; tag = tag; fits = p; short = q; small = r }

-- what is made of the number that some bytes write, within k bits
abbrev made_from : {T : Type 0} (k : ℕ) → ((n : ℕ) → n < 2 ^ k → T) → List ℕ → T
made_from k make bs = make (number bs % 2 ^ k) (below_power k (number bs))

abbrev pub byte_from : List ℕ → Byte
byte_from bs = made_from 8 byte (take 1 bs)

abbrev pub position_from : List ℕ → Position
position_from bs = made_from 32 position (take 4 bs)

abbrev pub cue_from : List ℕ → Cue
cue_from bs = made_from 32 (made_from 32 (made_from 64 cue (take 8 bs)) (take 4 (drop 8 bs))) (take 4 (drop 12 bs))

module _ {T : Type 0} (k : ℕ) (make : (n : ℕ) → n < 2 ^ k → T) where
  -- the same of the same number
  pub made-same : {a b : ℕ} → a ≡ b → (p : a < 2 ^ k) (q : b < 2 ^ k) → make a p ≡ make b q
  made-same {a = a} e p q = subst (λ n. (h : n < 2 ^ k) → make a p ≡ make n h) e (λ h. ap (make a) (le_prop p h)) q

  -- the same of a number that was packed
  made-again : (width n : ℕ) → 2 ^ k ≡ 256 ^ width → (p : n < 2 ^ k) → made_from k make (little_endian width n) ≡ make n p
  made-again width n same p = made-same (number-packed width k n same p) (below_power k (number (little_endian width n))) p

pub byte-again : (x : Byte) → byte_from (byte_packed x) ≡ x
byte-again x = made-again 8 byte 1 x.value refl x.fits

pub position-again : (x : Position) → position_from (position_packed x) ≡ x
position-again x = made-again 32 position 4 x.at refl x.fits

-- a cue of the numbers that three parts write
pub cue-made : (xs ys zs : List ℕ) (s l t : ℕ) (p : s < 2 ^ 64) (q : l < 2 ^ 32) (r : t < 2 ^ 32)
    → number xs % 2 ^ 64 ≡ s → number ys % 2 ^ 32 ≡ l → number zs % 2 ^ 32 ≡ t → made_from 32 (made_from 32 (made_from 64 cue xs) ys) zs ≡ cue s p l q t r
cue-made xs ys zs s l t p q r sample length tag =
    ap (λ (f : (n : ℕ) → n < 2 ^ 32 → (m : ℕ) → m < 2 ^ 32 → Cue). made_from 32 (made_from 32 f ys) zs) (made-same 64 cue sample (below_power 64 (number xs)) p)
    ∙ ap (λ (f : (n : ℕ) → n < 2 ^ 32 → Cue). made_from 32 f zs) (made-same 32 (cue s p) length (below_power 32 (number ys)) q)
    ∙ made-same 32 (cue s p l q) tag (below_power 32 (number zs)) r

pub cue-again : (x : Cue) → cue_from (cue_packed x) ≡ x
cue-again x =
    cue-made (little_endian 8 x.sample) (little_endian 4 x.length) (little_endian 4 x.tag) x.sample x.length x.tag x.fits x.short x.small
    (number-packed 8 64 x.sample refl x.fits) (number-packed 4 32 x.length refl x.short) (number-packed 4 32 x.tag refl x.small)

pub cue-exact : (x : Cue) → length (cue_packed x) ≡ 16
cue-exact x = refl

pub cue-bytes : (x : Cue) → AllBytes (cue_packed x)
cue-bytes x =
    bytes-append (little_endian 8 x.sample) (little_endian 4 x.length ++ little_endian 4 x.tag) (bytes-little_endian 8 x.sample)
    (bytes-append (little_endian 4 x.length) (little_endian 4 x.tag) (bytes-little_endian 4 x.length) (bytes-little_endian 4 x.tag))
