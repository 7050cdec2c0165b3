-- A card's text, line by line. Assumes nothing.
use Rattle.std.proofs.Common.{◌≡◌, ℕ, List, [], ◌∷◌, ◌++◌, length, take, drop, decimal, sym, refl, ap, ◌∙◌, arith}
use Rattle.std.proofs.lemmas.List.{length-map, take_at, drop_at}
use Rattle.cards.specs.declared.Entry.{Entry}
use Rattle.cards.specs.Letters.{letter_of}
use Rattle.cards.specs.Read.{OneWriting}
use Rattle.cards.specs.Written.{letters, sizes}
use Rattle.cards.proofs.Decimals.{same-number}
use Rattle.cards.proofs.Lines.{one-lines}

length-letters : (es : List Entry) → length (letters es) ≡ length es
length-letters es = length-map es (λ e. letter_of e.letter)

-- what stands after the first line
abbrev below : List Entry → List ℕ
below es = letters es ++ 10 ∷ (sizes es ++ 10 ∷ [])

module _ (es : List Entry) (rest : List ℕ) (count : ℕ) (is : rest ≡ below es) (many : count ≡ length es) where
  below-letters : take count rest ≡ letters es
  below-letters = ap (take count) is ∙ take_at (letters es) _ count (length-letters es ∙ sym many)

  below-sizes : drop count rest ≡ 10 ∷ (sizes es ++ 10 ∷ [])
  below-sizes = ap (drop count) is ∙ drop_at (letters es) _ count (length-letters es ∙ sym many)

-- no two cards have one text
pub one-writing : OneWriting
one-writing c c' es es' w w' e =
    let counts = same-number (length es) (length es') 32 32 _ _ (omega (arith, w.count)) (omega (arith, w'.count)) (omega arith) (omega arith) e in
    let first : decimal c ++ 10 ∷ below es ≡ decimal c' ++ 10 ∷ below es' = cc counts.1 in
    let capacities = same-number c c' 10 10 _ _ w.small w'.small (omega arith) (omega arith) first in
    let rest : below es ≡ below es' = cc capacities.1 in
    let ls = sym (below-letters es' (below es) (length es) rest counts.0) ∙ below-letters es (below es) (length es) refl refl in
    let ss : sizes es' ++ 10 ∷ [] ≡ sizes es ++ 10 ∷ [] = cc (sym (below-sizes es' (below es) (length es) rest counts.0) ∙ below-sizes es (below es) (length es) refl refl) in (
      capacities.0,
      one-lines (letters es) (sizes es ++ 10 ∷ []) es es' (record { letters_are = refl; sizes_are = refl; sound = w.sound }) (record { letters_are = ls; sizes_are = ss; sound = w'.sound }),
    )
