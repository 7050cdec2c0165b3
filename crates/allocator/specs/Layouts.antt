-- What a request may ask for, in the words of Rust's documentation of Layout: a size, and an alignment that is a power of two.
use Rattle.std.specs.Prelude.{◌≡◌, ℕ, ◌+◌, ◌-◌, ◌%◌, ◌^◌, ◌<◌, ◌≤◌}

abbrev pub Sized : ℕ → Type 0
Sized size = (0 < size) × (size ≤ 16777216)

abbrev pub PowerOfTwo : ℕ → Type 0
PowerOfTwo n = (k : ℕ) × (n ≡ 2 ^ k)

abbrev pub Aligning : ℕ → Type 0
Aligning align = PowerOfTwo align × (align ≤ 4096)

-- the address is a multiple of the alignment
abbrev pub Aligned : ℕ → ℕ → Type 0
Aligned at align = at % align ≡ 0

-- how far the address lies below a multiple of the alignment
abbrev pub pad : ℕ → ℕ → ℕ
pad at align = (align - at % align) % align

-- no smaller number brings the address to a multiple of the alignment
pub record LeastPad (at align p : ℕ) : Type 0 where
  pub aligned : Aligned (at + p) align
  pub least : (q : ℕ) → Aligned (at + q) align → p ≤ q
