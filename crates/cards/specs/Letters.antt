-- The letters of a card, the number of its refusal, and what is printed of both. Assumes nothing.
use Rattle.std.specs.Prelude.{ℕ, List, [], ◌∷◌, ◌++◌, Some, None, Option, codes, decimal}
use Rattle.cards.specs.declared.Fault.{Fault}
use Rattle.cards.specs.declared.Fault.TheVariants.{Broken}
use Rattle.cards.specs.declared.Letter.{Letter}
use Rattle.cards.specs.declared.Letter.TheVariants.{Byte, Half, Word, Double, Quad, Positions, Cues, Pop}

-- the character that writes a letter: b, h, w, d, q, v, c or p
abbrev pub letter_of : Letter → ℕ
letter_of Byte = 98
letter_of Half = 104
letter_of Word = 119
letter_of Double = 100
letter_of Quad = 113
letter_of Positions = 118
letter_of Cues = 99
letter_of Pop = 112

abbrev pub letter_text : Letter → List ℕ
letter_text letter = letter_of letter ∷ []

-- the alignment of a push; what is no push has none
abbrev pub align_of : Letter → Option ℕ
align_of Byte = Some 1
align_of Half = Some 2
align_of Word = Some 4
align_of Double = Some 8
align_of Quad = Some 16
align_of Positions = None
align_of Cues = None
align_of Pop = None

abbrev pub refusal : Fault → ℕ
refusal Broken = 11

abbrev pub refusal_text : Fault → List ℕ
refusal_text fault = codes "refused " ++ decimal (refusal fault)
