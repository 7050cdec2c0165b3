-- What reading a card answers. Assumes nothing.
use Rattle.std.specs.Prelude.{◌≡◌, ℕ, List, [], ◌∷◌, ◌++◌, Ok, Err, vec_items, Result, ◌≢◌}
use Rattle.std.specs.List.{AllByRecursion}
use Rattle.cards.specs.declared.Card.{Card}
use Rattle.cards.specs.declared.Entry.{Entry}
use Rattle.cards.specs.declared.Fault.{Fault}
use Rattle.cards.specs.declared.Fault.TheVariants.{Broken}
use Rattle.cards.specs.Written.{letters, sizes, written, Sound, Within}

abbrev pub capacity_of : Card → ℕ
capacity_of card = card.capacity

abbrev pub entries_of : Card → List Entry
entries_of card = vec_items card.entries

-- the text is this card's
abbrev pub Is : List ℕ → ℕ → List Entry → Type 0
Is text capacity entries = Within capacity entries × (written capacity entries ≡ text)

-- it is no card's
abbrev pub NoCard : List ℕ → Type 0
NoCard text = (capacity : ℕ) (entries : List Entry) → Within capacity entries → written capacity entries ≢ text

-- the card whose text it is, and a refusal only of what is no card's text
abbrev pub Read : List ℕ → Result Card Fault → Type 0
Read text (Ok card) = Is text (capacity_of card) (entries_of card)
Read text (Err Broken) = NoCard text

-- no two cards have one text
abbrev pub OneWriting : Type 0
OneWriting = (c c' : ℕ) (es es' : List Entry) → Within c es → Within c' es' → written c es ≡ written c' es' → (c ≡ c') × (es ≡ es')

-- the second line, without its newline, and the third are those of the entries
pub record Lines (ls ss : List ℕ) (entries : List Entry) : Type 0 where
  pub letters_are : letters entries ≡ ls
  pub sizes_are : sizes entries ++ 10 ∷ [] ≡ ss
  pub sound : AllByRecursion Sound entries
