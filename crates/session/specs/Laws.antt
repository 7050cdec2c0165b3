-- The laws of a session, as statements about its ledger and its state.
use Rattle.std.specs.Prelude.{◌≡◌, ℕ, ◌+◌, ◌-◌, ◌<◌, ◌≤◌, true, cond, ◌⊎◌, List, [], ◌∷◌, length, nat_lt}
use Rattle.allocator.specs.Layouts as layouts
use Rattle.allocator.specs.Memory.{Memory, Lawful, within, byte_at}
use Rattle.allocator.specs.declared.fault.Cause.{Cause}
use Rattle.allocator.specs.declared.fault.Fault.TheVariants.{DoesNotFit, Address}
use Rattle.session.specs.Ledger.{Span, Ledger, Among, LastStored, need_with}
use Rattle.session.specs.Calls.{Call, push, load, store, Answer, done, byte, refused}
use Rattle.session.specs.Steps.{State, Step}
use Rattle.session.specs.declared.fault.Fault.TheVariants.{Allocator}

abbrev pub Each : (Span → Type 0) → List Span → Type 0
Each P [] = Unit {0}
Each P (span ∷ rest) = P span × Each P rest

abbrev pub Aligned : Span → Type 0
Aligned span = layouts.Aligned span.at span.align

-- the span lies inside one of the blocks
abbrev pub InOneBlock : Memory → Span → Type 0
InOneBlock [] span = ⊥
InOneBlock (b ∷ older) span =
    ((b.base ≤ span.at) × (span.at + span.size ≤ b.base + length b.bytes)) ⊎ InOneBlock older span

-- two spans share no byte
abbrev pub Separate : Span → Span → Type 0
Separate one other = (one.at + one.size ≤ other.at) ⊎ (other.at + other.size ≤ one.at)

-- no two of them share a byte
abbrev pub AllSeparate : List Span → Type 0
AllSeparate [] = Unit {0}
AllSeparate (span ∷ rest) = Each (Separate span) rest × AllSeparate rest

-- the call is answered so and in no other way, and changes nothing
abbrev pub Answers : State → Call → Answer → Type 0
Answers s call answer = Step s call answer s × ((other : Answer) (after : State) → Step s call other after → other ≡ answer)

-- the call was an accepted store to that address
abbrev pub StoresTo : List Span → Call → Answer → ℕ → Type 0
StoresTo live call answer at =
    (span : Span) × (offset : ℕ) × (value : ℕ) × Among span live × (call ≡ store span.grant offset value) × (answer ≡ done) × (at ≡ span.at + offset)

-- Separation: how the live spans of the ledger stand in a session.
pub record Separation (ledger : Ledger) (s : State) : Type 0 where
  -- they are the ones that the session has on record
  pub recorded : ledger.live ≡ s.live
  -- a grant is one span's
  pub unique : (one other : Span) → Among one ledger.live → Among other ledger.live → one.grant ≡ other.grant → one ≡ other
  pub aligned : Each Aligned ledger.live
  pub contained : Each (InOneBlock s.memory) ledger.live
  pub separate : AllSeparate ledger.live
  -- the allocator refuses no call for its address
  pub reached : (call : Call) (after : State) → Step s call (refused (Allocator Address)) after → ⊥
  -- a stored byte reads as last stored through its grant
  pub reads : (span : Span) → Among span ledger.live → (offset value : ℕ) → offset < span.size →
      LastStored ledger.stores span.grant offset value → Answers s (load span.grant offset) (byte value)
  -- nothing else changes a byte, so one that was not stored since its push reads as the block had it
  pub kept : (call : Call) (answer : Answer) (after : State) → Step s call answer after → Lawful after.memory →
      (at : ℕ) → within s.memory at ≡ true → (StoresTo ledger.live call answer at → ⊥) → byte_at after.memory at ≡ byte_at s.memory at

-- how much of the newest block is not taken
abbrev pub untaken : Memory → ℕ
untaken [] = 0
untaken (b ∷ older) = length b.bytes - b.mark

-- The capacity of the newest block, in a session that was opened on `start`: what was untaken in it then, or its whole length where it came later,
-- and 0 with no block.
abbrev pub capacity : Memory → Memory → ℕ
capacity start [] = 0
capacity start (b ∷ older) = cond (nat_lt (length start) (length (b ∷ older))) (length b.bytes) (untaken start)

-- a push was refused as not fitting, or served from a further block
abbrev pub Strained : State → Answer → State → Type 0
Strained s answer after = ((cause : Cause) × (answer ≡ refused (Allocator (DoesNotFit cause)))) ⊎ (length s.memory < length after.memory)

-- Need: a push is strained only where the need, that push included, exceeds the capacity of the newest block before it.
abbrev pub Need : Memory → Ledger → State → Type 0
Need start ledger s = (size align : ℕ) (answer : Answer) (after : State) → Step s (push size align) answer after →
    Strained s answer after → capacity start s.memory < need_with ledger size align
