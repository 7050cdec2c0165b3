-- The text of a card: three lines of numbers and letters. Assumes nothing.
use Rattle.std.specs.Prelude.{◌≡◌, ℕ, ◌≤◌, List, [], ◌∷◌, ◌++◌, map, length, decimal}
use Rattle.std.specs.List.{AllByRecursion}
use Rattle.cards.specs.declared.Entry.{Entry}
use Rattle.cards.specs.declared.Letter.TheVariants.{Pop}
use Rattle.cards.specs.Letters.{letter_of}

abbrev pub letters : List Entry → List ℕ
letters entries = map (λ e. letter_of e.letter) entries

-- one space between two sizes
abbrev pub sizes : List Entry → List ℕ
sizes [] = []
sizes (e ∷ []) = decimal e.size
sizes (e ∷ f ∷ es) = decimal e.size ++ 32 ∷ sizes (f ∷ es)

-- the count and the capacity, the letters, the sizes, and a newline after each line
abbrev pub written : ℕ → List Entry → List ℕ
written capacity entries = decimal (length entries) ++ 32 ∷ (decimal capacity ++ 10 ∷ (letters entries ++ 10 ∷ (sizes entries ++ 10 ∷ [])))

-- a pop has no size
pub record Sound (e : Entry) : Type 0 where
  pub small : e.size ≤ 99999999
  pub pop : e.letter ≡ Pop → e.size ≡ 0

-- what a card may hold
pub record Within (capacity : ℕ) (entries : List Entry) : Type 0 where
  pub count : length entries ≤ 4096
  pub small : capacity ≤ 99999999
  pub sound : AllByRecursion Sound entries
  pub bytes : length (written capacity entries) ≤ 32768
