-- A session's record of its live spans, the oldest first.
use Rattle.std.specs.Prelude.{◌≡◌, ℕ, ◌+◌, ◌-◌, ◌^◌, ◌<◌, ◌≤◌, min, List, [], ◌∷◌, map, reverse, ◌≢◌}
use mathlib.Core.HLevel.{Unit-prop, ×_prop}
use native.Mathlib.Bridge.{le_prop}
use Rattle.session.specs.Ledger.{Span, new_span, Among}
use Rattle.session.specs.declared.fault.Fault.{Fault}
use Rattle.session.specs.declared.fault.Fault.TheVariants.{NotNewest, NotLive, Full, Outside, Allocator}
use Rattle.session.specs.declared.live.LiveSpan.{LiveSpan}

abbrev pub recorded : LiveSpan → Span
recorded span = new_span span.grant span.at span.layout.size span.layout.align

-- the live spans, the newest first
abbrev pub live : List LiveSpan → List Span
live spans = map recorded (reverse spans)

-- newer spans have higher grants, all below the limit
abbrev pub Numbered : ℕ → List Span → Type 0
Numbered limit [] = Unit {0}
Numbered limit (span ∷ older) = (span.grant < limit) × Numbered span.grant older

-- it has one proof at most, so that it may stand in a type
pub Numbered-prop : (limit : ℕ) (spans : List Span) → IsProp (Numbered limit spans)
Numbered-prop limit [] = Unit-prop
Numbered-prop limit (span ∷ older) = ×_prop le_prop (Numbered-prop span.grant older)

-- a grant is one live span's
abbrev pub Unique : List Span → Type 0
Unique live = (one other : Span) → Among one live → Among other live → one.grant ≡ other.grant → one ≡ other

-- no live span has the grant
abbrev pub NotAmong : List Span → ℕ → Type 0
NotAmong spans grant = (span : Span) → Among span spans → span.grant ≢ grant

-- the record is a live span's, and has the grant
abbrev pub Found : List Span → ℕ → LiveSpan → Type 0
Found spans grant span = Among (recorded span) spans × (span.grant ≡ grant)

-- a live span of the grant has that address and size
abbrev pub Held : List Span → ℕ → ℕ → ℕ → Type 0
Held spans grant at size = (span : Span) × Among span spans × (span.grant ≡ grant) × (span.at ≡ at) × (span.size ≡ size)

-- the offset is inside a live span of the grant, and the address is its byte's, or the last number where that is past it
pub record Addressed (spans : List Span) (grant offset at : ℕ) : Type 0 where
  pub span : Span
  pub among : Among span spans
  pub named : span.grant ≡ grant
  pub inside : offset < span.size
  pub is : at ≡ min (span.at + offset) (2 ^ 64 - 1)

-- why there is none
abbrev pub Unaddressed : List Span → ℕ → ℕ → Fault → Type 0
Unaddressed spans grant offset NotLive = NotAmong spans grant
Unaddressed spans grant offset Outside = (span : Span) × Among span spans × (span.grant ≡ grant) × (span.size ≤ offset)
Unaddressed spans grant offset NotNewest = ⊥
Unaddressed spans grant offset Full = ⊥
Unaddressed spans grant offset (Allocator fault) = ⊥
