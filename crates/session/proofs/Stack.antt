-- How the live spans lie in the blocks: those of the newest block close above one another, the others in older blocks.
use Rattle.std.proofs.Common.{◌≡◌, ℕ, suc, ◌+◌, ◌-◌, ◌*◌, ◌<◌, ◌≤◌, true, ◌⊎◌, List, ◌∷◌, length, inl, inr, le_refl, suc-mul, arith}
use Rattle.allocator.specs.Layouts.{Aligning}
use Rattle.allocator.specs.Memory.{Block, Memory, Apart, AllFull, taken}
use Rattle.allocator.proofs.Spans.{spans-from, taken-newest, taken-older}
use Rattle.session.specs.Ledger.{Span, bytes}
use Rattle.session.specs.Laws.{InOneBlock, Separate, Each, AllSeparate}
use Rattle.session.proofs.Rounding.{up, up-above, up-near, up-within}
use Rattle.session.proofs.Blocks.{across, within-from, taken-all}
use Rattle.session.proofs.Grants.{each-map}

abbrev pub Lies : Memory → Span → Type 0
Lies m span = InOneBlock m span × (0 < span.size)

-- `from` is where the untaken part of the newest block began, `mark` the address where it begins now, and no
-- alignment was above `most`
pub data Tight (older : Memory) (from most : ℕ) : List Span → ℕ → Type 0 where
  bottom : {live : List Span} {mark : ℕ} → from ≤ mark → mark ≤ up from most → Each (Lies older) live → AllSeparate live → Tight older from most live mark
  atop : {span : Span} {live : List Span} {mark : ℕ} → 0 < span.size → span.at + span.size ≤ mark → mark ≤ up (span.at + span.size) most →
      Tight older from most live span.at → Tight older from most (span ∷ live) mark

-- the newest live span lies in an older block, or on top of the newest
pub tight-first : {older : Memory} {from most : ℕ} {span : Span} {live : List Span} {mark : ℕ} → Tight older from most (span ∷ live) mark →
    (InOneBlock older span × (0 < span.size) × Tight older from most live mark)
    ⊎ ((0 < span.size) × (span.at + span.size ≤ mark) × Tight older from most live span.at)
tight-first (bottom low high lie apart) = inl (lie.0.0, lie.0.1, bottom low high lie.1 apart.1)
tight-first (atop some end near below) = inr (some, end, below)

pub tight-low : {older : Memory} {from most : ℕ} {live : List Span} {mark : ℕ} → Tight older from most live mark → from ≤ mark
tight-low (bottom low high lie apart) = low
tight-low (atop some end near below) = omega (arith, tight-low below)

-- the mark is no further up than the sizes and one gap for each span, and one more
pub tight-bound : {older : Memory} {from most : ℕ} {live : List Span} {mark : ℕ} → 0 < most → Tight older from most live mark →
    mark ≤ from + bytes live + suc (length live) * (most - 1)
tight-bound {from = from} {most = most} {live = live} pos (bottom low high lie apart) =
    omega (arith, up-near from most pos, suc-mul (length live) (most - 1))
tight-bound {most = most} pos (atop {span = span} {live = live} some end near below) =
    omega (arith, up-near (span.at + span.size) most pos, tight-bound pos below, suc-mul (suc (length live)) (most - 1))

-- a push raises the mark to the next multiple of its alignment
module _ (most most' : ℕ) (ha : Aligning most) (ha' : Aligning most') (le : most ≤ most') where
  wider : (mark from : ℕ) → mark ≤ up from most → mark ≤ up from most'
  wider mark from h = omega (arith, h, up-within from from most most' ha ha' le (up-above from most'))

  pub tight-wider : {older : Memory} {from : ℕ} {live : List Span} {mark : ℕ} → Tight older from most live mark → Tight older from most' live mark
  tight-wider {from = from} {mark = mark} (bottom low high lie apart) = bottom low (wider mark from high) lie apart
  tight-wider {mark = mark} (atop {span = span} some end near below) = atop some end (wider mark (span.at + span.size) near) (tight-wider below)

  pub tight-raised : {older : Memory} {from : ℕ} {live : List Span} {mark : ℕ} (align : ℕ) → Aligning align → align ≤ most' →
      Tight older from most live mark → Tight older from most' live (up mark align)
  tight-raised {from = from} {mark = mark} align hal small (bottom low high lie apart) =
      bottom (omega arith) (up-within mark from align most' hal ha' small (wider mark from high)) lie apart
  tight-raised {mark = mark} align hal small (atop {span = span} some end near below) =
      atop some (omega arith) (up-within mark (span.at + span.size) align most' hal ha' small (wider mark (span.at + span.size) near)) (tight-wider below)

-- other older blocks of the same shape
pub tight-moved : {older older' : Memory} {from most : ℕ} {live : List Span} {mark : ℕ} → ((span : Span) → InOneBlock older span → InOneBlock older' span) →
    Tight older from most live mark → Tight older' from most live mark
tight-moved {older = older} {older' = older'} f (bottom {live = live} low high lie apart) =
    bottom low high (each-map (Lies older) (Lies older') (λ span (there, some). (f span there, some)) live lie) apart
tight-moved f (atop some end near below) = atop some end near (tight-moved f below)

module _ (b : Block) (older : Memory) (apart : Apart b older) where
  -- each live span lies in one block
  pub tight-lies : {from most : ℕ} {live : List Span} {mark : ℕ} → b.base ≤ from → mark ≤ b.base + length b.bytes →
      Tight older from most live mark → Each (Lies (b ∷ older)) live
  tight-lies low high (bottom {live = live} _ _ lie _) = each-map (Lies older) (Lies (b ∷ older)) (λ span (there, some). (inr there, some)) live lie
  tight-lies low high (atop some end near below) =
      ((inl (omega (arith, tight-low below), omega arith), some), tight-lies low (omega arith) below)

  -- a span above the mark shares no byte with a live one
  tight-apart : {from most : ℕ} {live : List Span} {mark : ℕ} (one : Span) → b.base ≤ one.at → one.at + one.size ≤ b.base + length b.bytes → 0 < one.size →
      mark ≤ one.at → Tight older from most live mark → Each (Separate one) live
  tight-apart one low high some above (bottom {live = live} _ _ lie _) =
      each-map (Lies older) (Separate one) (λ span (there, some'). across b older one span apart low high some there some') live lie
  tight-apart one low high some above (atop some' end near below) =
      (inr (omega arith), tight-apart one low high some (omega arith) below)

  -- no two live spans share a byte
  pub tight-separate : {from most : ℕ} {live : List Span} {mark : ℕ} → b.base ≤ from → mark ≤ b.base + length b.bytes →
      Tight older from most live mark → AllSeparate live
  tight-separate low high (bottom _ _ _ separate) = separate
  tight-separate low high (atop {span = span} some end near below) =
      (tight-apart span (omega (arith, tight-low below)) (omega arith) some (le_refl _) below, tight-separate low (omega arith) below)

-- each byte of a live span is taken
abbrev pub Taken : Memory → Span → Type 0
Taken m span = (offset : ℕ) → offset < span.size → taken m (span.at + offset) ≡ true

pub tight-taken : {older : Memory} {from most : ℕ} {live : List Span} {mark : ℕ} (b : Block) → AllFull older → b.base ≤ from → mark ≤ b.base + b.mark →
    Tight older from most live mark → Each (Taken (b ∷ older)) live
tight-taken {older = older} b all low high (bottom {live = live} _ _ lie _) =
    each-map (Lies older) (Taken (b ∷ older)) (λ span lies offset less. taken-older b older (span.at + offset) (taken-all older (span.at + offset) all (within-from older span (span.at + offset) lies.0 (omega arith) (omega arith)))) live lie
tight-taken {older = older} b all low high (atop {span = span} some end near below) = (
  (λ offset less. taken-newest b older (span.at + offset) (spans-from b.base b.mark (span.at + offset) (omega (arith, tight-low below)) (omega arith))),
  tight-taken b all low (omega arith) below,
)
