-- What an arena stands for, idle or in use: its source, its blocks and its count of growths.
use Rattle.std.specs.Prelude.{◌≡◌, ℕ, ◌+◌, Bool, true, false, cond, List, [], ◌∷◌, length, Ok, Err, Result}
use Rattle.source.specs.Blocks.{Source, Outstanding, Place, having, without, granted, refused}
use Rattle.source.specs.declared.fault.SourceFault.{SourceFault}
use Rattle.source.specs.declared.fault.SourceFault.TheVariants.{NoBlock}
use Rattle.arena.specs.declared.ring.Ring.{Ring}
use Rattle.arena.specs.Rings.{chain, newest, before, opened}

-- the blocks, the newest first; growths counts those that were granted after the first one, over the arena's life
pub record Arena : Type 0 where
  pub source : Source
  pub blocks : List Place
  pub growths : ℕ

abbrev pub blocks_of : Ring → List Place
blocks_of r = chain r.records.items

abbrev pub arena_of : Source → Ring → ℕ → Arena
arena_of s r growths = record { source = s; blocks = blocks_of r; growths = growths }

abbrev pub unopened : Source → Arena
unopened s = record { source = s; blocks = []; growths = 0 }

-- the source granted the arena's first block
abbrev pub begun : Arena → Outstanding → Arena
begun a b = record { source = granted a.source b; blocks = record { base = b.base; size = length b.bytes } ∷ a.blocks; growths = a.growths }

-- it granted a further block
abbrev pub grown : Arena → Outstanding → Arena
grown a b = record { source = granted a.source b; blocks = record { base = b.base; size = length b.bytes } ∷ a.blocks; growths = a.growths + 1 }

-- it granted a block: a growth, unless it is the first
abbrev pub extended : Arena → Outstanding → Arena
extended a b = cond (opened a.blocks) (grown a b) (begun a b)

-- it refused a block of that size
abbrev pub dry : Arena → ℕ → Arena
dry a size = record { source = refused a.source size; blocks = a.blocks; growths = a.growths }

-- the source once those blocks were given back
abbrev pub given_back : Source → List Place → Source
given_back s [] = s
given_back s (p ∷ ps) = given_back (having s (without s.blocks p.base)) ps

-- all but the newest block were given back
abbrev pub shrunk : Arena → Arena
shrunk a = record { source = given_back a.source (before a.blocks); blocks = newest a.blocks; growths = a.growths }

-- the source was asked for a block, and answered as it chooses to; or it was not, and is the same
pub record Consulted {S : Type 0} (chooses : S → ℕ → Result ℕ SourceFault → S → Type 0) (asked : Bool) (s : S) (want : ℕ) (answer : Result ℕ SourceFault) (s' : S) : Type 0 where
  pub chosen : asked ≡ true → chooses s want answer s'
  pub same : asked ≡ false → s' ≡ s

-- the source got those blocks back, one after the other
pub data Gave {S : Type 0} (gives : S → ℕ → Result (Unit {0}) SourceFault → S → Type 0) : S → List Place → S → Type 0 where
  done : {s : S} → Gave gives s [] s
  next : {s t u : S} {p : Place} {ps : List Place} {answer : Result (Unit {0}) SourceFault} → gives s p.base answer t → Gave gives t ps u → Gave gives s (p ∷ ps) u

-- a block of that size and address was taken, with bytes of the source's choice
pub record Taken (a : Arena) (want at : ℕ) (a' : Arena) : Type 0 where
  pub bytes : List ℕ
  pub many : length bytes ≡ want
  pub after : a' ≡ extended a (record { base = at; bytes = bytes })

-- or the source refused it
abbrev pub Takes : Arena → ℕ → Result ℕ SourceFault → Arena → Type 0
Takes a want (Ok at) a' = Taken a want at a'
Takes a want (Err fault) a' = (fault ≡ NoBlock) × (a' ≡ dry a want)
