-- The bytes of the library's numbers are ours, and the numbers of its bytes.
use Rattle.std.proofs.Common.{rules, ◌≡◌, ℕ, ◌+◌, ◌-◌, ◌%◌, ◌^◌, ◌<◌, ◌≤◌, List, take, drop, ◌++◌, slice_index, arith, w32, w64, sym, refl, ap, lit≤, ◌∙◌}
use Rattle.std.specs.Int.{to_le_bytes, from_le_bytes}
use Rattle.std.proofs.lemmas.List.{get_or_append_left, get_or-append_right}
use Rattle.kind.specs.Bytes.{little_endian, number}
use Rattle.kind.specs.Endian.{limited, part-front}
use Rattle.kind.specs.Packings.{cue, cue_packed, cue_from, cue-made}
use Rattle.kind.specs.declared.element.Cue.{Cue}

written_4 : (n : ℕ) → to_le_bytes w32 n ≡ little_endian 4 n
written_4 n = search rules

pub read_4 : (bs : List ℕ) → from_le_bytes w32 (take 4 bs) ≡ number (take 4 bs)
read_4 bs = search rules

pub read_8 : (bs : List ℕ) → from_le_bytes w64 (take 8 bs) ≡ number (take 8 bs)
read_8 bs = search rules

-- a byte of a cue past its sample's: of its length, or of its tag
pub byte_of_length : (x : Cue) (i : ℕ) → 8 ≤ i → i < 12 → slice_index (to_le_bytes w32 x.length) (i - 8) ≡ slice_index (cue_packed x) i
byte_of_length x i from until =
    let past = get_or-append_right (little_endian 8 x.sample) (little_endian 4 x.length ++ little_endian 4 x.tag) 8 i 0 refl from in
    let short : i - 8 < 4 = omega arith in
    ap (λ bs. slice_index bs (i - 8)) (written_4 x.length) ∙ sym (past ∙ get_or_append_left (little_endian 4 x.length) (little_endian 4 x.tag) 0 (i - 8) short)

pub byte_of_tag : (x : Cue) (i : ℕ) → 12 ≤ i → slice_index (to_le_bytes w32 x.tag) (i - 12) ≡ slice_index (cue_packed x) i
byte_of_tag x i from =
    let past = get_or-append_right (little_endian 8 x.sample ++ little_endian 4 x.length) (little_endian 4 x.tag) 12 i 0 refl from in
    ap (λ bs. slice_index bs (i - 12)) (written_4 x.tag) ∙ sym past

number_read : (bs : List ℕ) (k at n v : ℕ) → at + n ≤ 16 → v ≡ number (take n (drop at bs)) → v < 2 ^ k → number (take n (drop at (take 16 bs))) % 2 ^ k ≡ v
number_read bs k at n v inside e less = ap (λ xs. number xs % 2 ^ k) (part-front bs at n 16 inside) ∙ sym (limited k v (number (take n (drop at bs))) less e)

-- a cue of the numbers in the front of a buffer
pub cue_read : (bs : List ℕ) (s l t : ℕ) (p : s < 2 ^ 64) (q : l < 2 ^ 32) (r : t < 2 ^ 32)
    → s ≡ number (take 8 bs) → l ≡ number (take 4 (drop 8 bs)) → t ≡ number (take 4 (drop 12 bs)) → cue s p l q t r ≡ cue_from (take 16 bs)
cue_read bs s l t p q r sample length tag =
    sym (cue-made _ _ _ s l t p q r (number_read bs 64 0 8 s (lit≤ tt) sample p) (number_read bs 32 8 4 l (lit≤ tt) length q) (number_read bs 32 12 4 t (lit≤ tt) tag r))
