-- What each call of a source answers, and the source after it.
use Rattle.std.specs.Prelude.{◌≡◌, ℕ, Bool, true, false, cond, ◌&&◌, List, length, Ok, Err, Result, nat_le, nat_lt}
use Rattle.source.specs.Blocks.{Source, Sound, Apart, within, starts, byte_at, without, stored, having, granted, refused}
use Rattle.source.specs.declared.fault.SourceFault.{SourceFault}
use Rattle.source.specs.declared.fault.SourceFault.TheVariants.{BlockSize, NoBlock, Address}

-- may a block have that many bytes
abbrev pub sized : ℕ → Bool
sized size = nat_lt 0 size && nat_le size 67108864

-- a request is granted by a block beside the others, with bytes of the source's choice
pub record Grants (s : Source) (size at : ℕ) (s' : Source) : Type 0 where
  pub bytes : List ℕ
  pub many : length bytes ≡ size
  pub sound : Sound (record { base = at; bytes = bytes })
  pub apart : Apart (record { base = at; bytes = bytes }) s.blocks
  pub after : s' ≡ granted s (record { base = at; bytes = bytes })

-- or it is refused, and only the record of requests differs
abbrev pub Asks : Source → ℕ → Result ℕ SourceFault → Source → Type 0
Asks s size (Ok at) s' = Grants s size at s'
Asks s size (Err fault) s' = (fault ≡ NoBlock) × (s' ≡ refused s size)

-- a size that no block has is no request
pub record Take (s : Source) (size : ℕ) (r : Result ℕ SourceFault) (s' : Source) : Type 0 where
  pub unsized : sized size ≡ false → (r ≡ Err BlockSize) × (s' ≡ s)
  pub asks : sized size ≡ true → Asks s size r s'

pub record Give (s : Source) (base : ℕ) (r : Result (Unit {0}) SourceFault) (s' : Source) : Type 0 where
  pub answer : r ≡ cond (starts s.blocks base) (Ok tt) (Err Address)
  pub after : s' ≡ having s (without s.blocks base)

abbrev pub Load : Source → ℕ → Result ℕ SourceFault → Type 0
Load s at r = r ≡ cond (within s.blocks at) (Ok (byte_at s.blocks at)) (Err Address)

pub record Store (s : Source) (at byte : ℕ) (r : Result (Unit {0}) SourceFault) (s' : Source) : Type 0 where
  pub answer : r ≡ cond (within s.blocks at) (Ok tt) (Err Address)
  pub after : s' ≡ cond (within s.blocks at) (having s (stored s.blocks at byte)) s
