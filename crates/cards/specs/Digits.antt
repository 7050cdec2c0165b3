-- The digits that a text begins with. Assumes nothing.
use Rattle.std.specs.Prelude.{◌≡◌, ℕ, ◌<◌, ◌≤◌, List, length, slice_index, slice_index_or}
use Rattle.std.specs.Int.{IsInRange}

abbrev pub AllDigits : List ℕ → Type 0
AllDigits ds = (i : ℕ) → i < length ds → IsInRange 48 57 (slice_index ds i)

-- n digits, and no more
pub record Run (text : List ℕ) (n : ℕ) : Type 0 where
  pub within : n ≤ length text
  pub all : (i : ℕ) → i < n → IsInRange 48 57 (slice_index text i)
  pub stops : n < length text → IsInRange 48 57 (slice_index text n) → ⊥

-- the digits of a number of a card: 0 alone begins with a zero, and 99,999,999 has eight digits
pub record Canonical (ds : List ℕ) : Type 0 where
  pub some : 0 < length ds
  pub few : length ds ≤ 8
  pub zero : slice_index_or ds 0 0 ≡ 48 → length ds ≡ 1
