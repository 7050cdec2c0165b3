-- The sizes of blocks: the least power of two that is enough.
use Rattle.std.specs.Prelude.{ℕ, zero, suc, ◌+◌, ◌*◌, ◌≤◌, max, cond, nat_le}
use Rattle.allocator.specs.Layouts.{PowerOfTwo}

-- p is a power of two and at least n, and no smaller one is
pub record LeastPower (n p : ℕ) : Type 0 where
  pub power : PowerOfTwo p
  pub above : n ≤ p
  pub least : (q : ℕ) → PowerOfTwo q → n ≤ q → p ≤ q

-- p, doubled until it is at least n, so many times at most
abbrev pub doubled : ℕ → ℕ → ℕ → ℕ
doubled zero n p = p
doubled (suc times) n p = cond (nat_le n p) p (doubled times n (2 * p))

unfoldable pub least_power_of : ℕ → ℕ
least_power_of n = doubled n n 1

-- the size of the block that is to follow one of that size, for a push of that layout
abbrev pub wanted : ℕ → ℕ → ℕ → ℕ
wanted last size align = max (2 * last) (least_power_of (16 + size + align))
