-- The worked runs, call by call.
use Rattle.std.proofs.Common.{◌≡◌, ℕ, suc, ◌+◌, ◌^◌, ◌<◌, ◌≤◌, true, false, List, [], ◌∷◌, length, refl, ap, inl, inr, arith}
use native.Mathlib.Nat.{pow-le-pow_right}
use Rattle.std.proofs.lemmas.Bool.{cases_lt, or_from}
use Rattle.allocator.specs.Layouts.{Sized, Aligning}
use Rattle.allocator.specs.Memory.{Memory, Lawful, within, inside, fits, placed, pushed}
use Rattle.allocator.specs.Answers as allocators
use Rattle.allocator.specs.declared.fault.Cause.TheVariants.{FixedBuffer}
use Rattle.allocator.proofs.Powers.{divides-from-aligning, aligning-some}
use Rattle.allocator.proofs.Spans.{spans-true, spans-past}
use Rattle.session.specs.Ledger.{Span, new_span, Among}
use Rattle.session.specs.Calls.{push, granted}
use Rattle.session.specs.Steps.{new_state, TooMany, Step, refuses, serves, pops, pops_newest, loads, stores, does_not_fit, pop_not_live, load_outside}
use Rattle.session.specs.Runs.{opened, visited}
use Rattle.session.specs.Growth as Growth
use Rattle.session.specs.Growth.{LeastPower}
use Rattle.session.specs.Figures.{Blocks, block, LandsOnPopped, GrowsAndPops, RefusesAndReads, GrowsOnce, SessionFigures}
use Rattle.session.specs.Records.{live, Numbered}
use Rattle.session.specs.declared.live.LiveSpan.{LiveSpan}
use Rattle.session.specs.declared.session.Session.{Session}

-- a session over bare blocks, with these records
abbrev session : (m : Memory) → Lawful m → (spans : List LiveSpan) (given : ℕ) → Numbered (given + 1) (live spans) → Session Blocks
session m lawful spans given rises = record { inner = record { memory = m; lawful = lawful }; spans = record { items = spans }; given = given; numbered = rises }

abbrev span : ℕ → ℕ → (size align : ℕ) → Sized size → Aligning align → LiveSpan
span grant at size align sized aligning =
    record {
      grant = grant;
      at = at;
      layout = record { size = size; align = align; some = sized.0; small = sized.1; low = aligning-some align aligning; high = aligning.1; divides = divides-from-aligning align aligning };
    }

one : Aligning 1
one = ((0, refl), omega arith)

four : Aligning 4
four = ((2, refl), omega arith)

eight : Aligning 8
eight = ((3, refl), omega arith)

few-live : (m : Memory) (live : List Span) (given : ℕ) → length live < 64 → given < 4294967295 → TooMany (new_state m live given) → ⊥
few-live m live given few less (inl h) = omega arith
few-live m live given few less (inr h) = omega arith

-- a push that fits
serve : (m : Memory) (live : List Span) (given size align : ℕ) → Sized size → Aligning align → length live < 64 → given < 4294967295 → fits m size align ≡ true →
    Step (new_state m live given) (push size align) (granted (suc given) (placed m align)) (new_state (pushed m size align) (new_span (suc given) (placed m align) size align ∷ live) (suc given))
serve m live given size align sized aligning few less fit = serves sized aligning (few-live m live given few less) (allocators.fitted fit refl refl)

alone : (base mark size : ℕ) → mark ≤ length (block base mark size).bytes → base + length (block base mark size).bytes ≤ 2 ^ 48 → Lawful (block base mark size ∷ [])
alone base mark size h k = (h, k, λ at e. refl, tt, tt)

lands : LandsOnPopped
lands =
    let s₁ = span 1 0 1 1 (omega arith, omega arith) one in
    let s₂ = span 2 8 8 8 (omega arith, omega arith) eight in
    let s₃ = span 3 8 1 1 (omega arith, omega arith) one in
    record {
      first = session (block 0 0 32 ∷ []) (alone 0 0 32 (omega arith) (omega arith)) [] 0 tt;
      last = session (block 0 9 32 ∷ []) (alone 0 9 32 (omega arith) (omega arith)) (s₁ ∷ s₃ ∷ []) 3 (omega arith, (omega arith, tt));
      opens = refl;
      run = visited {s = session (block 0 8 32 ∷ []) (alone 0 8 32 (omega arith) (omega arith)) (s₁ ∷ []) 2 (omega arith, tt)}
          (visited {s = session (block 0 16 32 ∷ []) (alone 0 16 32 (omega arith) (omega arith)) (s₁ ∷ s₂ ∷ []) 2 (omega arith, (omega arith, tt))}
          (visited {s = session (block 0 1 32 ∷ []) (alone 0 1 32 (omega arith) (omega arith)) (s₁ ∷ []) 1 (omega arith, tt)}
          (visited opened (record {
            step = serve (block 0 0 32 ∷ []) [] 0 1 1 (omega arith, omega arith) one (omega arith) (omega arith) refl;
            own = tt;
          }))
          (record {
            step = serve (block 0 1 32 ∷ []) (new_span 1 0 1 1 ∷ []) 1 8 8 (omega arith, omega arith) eight (omega arith) (omega arith) refl;
            own = tt;
          }))
          (record {
            step = pops_newest (new_span 2 8 8 8) (new_span 1 0 1 1 ∷ []) refl refl;
            own = tt;
          }))
          (record {
            step = serve (block 0 8 32 ∷ []) (new_span 1 0 1 1 ∷ []) 2 1 1 (omega arith, omega arith) one (omega arith) (omega arith) refl;
            own = tt;
          });
      ends = refl;
    }

-- the further block lies after the first
further-apart : (mark at : ℕ) → inside (block 64 mark 48) at ≡ true → within (block 16 16 16 ∷ []) at ≡ false
further-apart mark at e =
    let low : 64 ≤ at = (spans-true 64 48 at e).0 in
    or_from (inside (block 16 16 16) at) false (spans-past 16 16 at (omega arith)) refl

both : (mark : ℕ) → mark ≤ 48 → Lawful (block 64 mark 48 ∷ block 16 16 16 ∷ [])
both mark h = (h, omega arith, further-apart mark, (refl, tt), alone 16 16 16 (omega arith) (omega arith))

grows : GrowsAndPops
grows =
    let s₁ = span 1 16 12 4 (omega arith, omega arith) four in
    let s₂ = span 2 64 24 8 (omega arith, omega arith) eight in
    record {
      first = session (block 16 0 16 ∷ []) (alone 16 0 16 (omega arith) (omega arith)) [] 0 tt;
      last = session (block 64 0 48 ∷ block 16 16 16 ∷ []) (both 0 (omega arith)) [] 2 tt;
      opens = refl;
      run = visited {s = session (block 64 0 48 ∷ block 16 16 16 ∷ []) (both 0 (omega arith)) (s₁ ∷ []) 2 (omega arith, tt)}
          (visited {s = session (block 64 24 48 ∷ block 16 16 16 ∷ []) (both 24 (omega arith)) (s₁ ∷ s₂ ∷ []) 2 (omega arith, (omega arith, tt))}
          (visited {s = session (block 16 12 16 ∷ []) (alone 16 12 16 (omega arith) (omega arith)) (s₁ ∷ []) 1 (omega arith, tt)}
          (visited opened (record {
            step = serve (block 16 0 16 ∷ []) [] 0 12 4 (omega arith, omega arith) four (omega arith) (omega arith) refl;
            own = tt;
          }))
          (record {
            step = serves (omega arith, omega arith) eight (few-live (block 16 12 16 ∷ []) (new_span 1 16 12 4 ∷ []) 1 (omega arith) (omega arith)) (allocators.further refl (block 64 24 48) refl refl refl);
            own = tt;
          }))
          (record {
            step = pops_newest (new_span 2 64 24 8) (new_span 1 16 12 4 ∷ []) refl refl;
            own = tt;
          }))
          (record {
            step = pops (new_span 1 16 12 4) [] refl refl;
            own = tt;
          });
      ends = refl;
    }

only-first : (other : Span) → Among other (new_span 1 0 8 8 ∷ []) → other.grant ≡ 2 → ⊥
only-first other (inl is) e = omega (arith, ap (λ (x : Span). x.grant) is)
only-first other (inr none) e = none

reads : RefusesAndReads
reads =
    let s₁ = span 1 0 8 8 (omega arith, omega arith) eight in
    let there = session (block 0 8 16 ∷ []) (alone 0 8 16 (omega arith) (omega arith)) (s₁ ∷ []) 1 (omega arith, tt) in
    let stored = session (record { base = 0; mark = 8; bytes = 0 ∷ 0 ∷ 0 ∷ 7 ∷ 0 ∷ 0 ∷ 0 ∷ 0 ∷ 0 ∷ 0 ∷ 0 ∷ 0 ∷ 0 ∷ 0 ∷ 0 ∷ 0 ∷ [] } ∷ []) (omega arith, omega arith, (λ at e. refl), tt, tt) (s₁ ∷ []) 1 (omega arith, tt) in
    let here : Span = new_span 1 0 8 8 in
    record {
      first = session (block 0 0 16 ∷ []) (alone 0 0 16 (omega arith) (omega arith)) [] 0 tt;
      last = stored;
      opens = refl;
      run = visited {s = stored}
          (visited {s = there}
          (visited {s = there}
          (visited {s = there}
          (visited {s = there}
          (visited opened (record {
            step = serve (block 0 0 16 ∷ []) [] 0 8 8 (omega arith, omega arith) eight (omega arith) (omega arith) refl;
            own = tt;
          }))
          (record {
            step = refuses (does_not_fit (omega arith, omega arith) one (few-live (block 0 8 16 ∷ []) (new_span 1 0 8 8 ∷ []) 1 (omega arith) (omega arith)) FixedBuffer (allocators.refused refl FixedBuffer refl refl));
            own = tt;
          }))
          (record {
            step = refuses (pop_not_live (λ (other, among, e). only-first other among e));
            own = λ ne. refl;
          }))
          (record { step = refuses (load_outside here (inl refl) (omega arith)); own = refl }))
          (record {
            step = stores here 3 7 (inl refl) (omega arith) refl;
            own = (here, inl refl, refl, tt);
          }))
          (record { step = loads here 3 (inl refl) (omega arith) refl; own = refl });
      ends = refl;
    }

least : LeastPower 48 64
least = record { exponent = 6; is = refl; enough = omega arith; least = go }
  where
    go : (other : ℕ) → 48 ≤ 2 ^ other → 64 ≤ 2 ^ other
    go other h = elim (cases_lt other 6) [
      | inl less ↦ absurd (let le : other ≤ 5 = omega arith in let bound : 2 ^ other ≤ 2 ^ 5 = pow-le-pow_right (omega arith) le in omega arith)
      | inr more ↦ pow-le-pow_right (omega arith) more
    ]

arena : GrowsOnce
arena = (
  Growth.grows
      (Growth.visits
      (Growth.begins (block 16 0 16) refl (alone 16 0 16 (omega arith) (omega arith)))
      (serve (block 16 0 16 ∷ []) [] 0 12 4 (omega arith, omega arith) four (omega arith) (omega arith) refl)
      (alone 16 12 16 (omega arith) (omega arith)) refl)
      (serves (omega arith, omega arith) eight (few-live (block 16 12 16 ∷ []) (new_span 1 16 12 4 ∷ []) 1 (omega arith) (omega arith)) (allocators.further refl (block 64 24 48) refl refl refl))
      (both 24 (omega arith))
      (omega arith)
      (record { power = 64; large = least; is = refl }),
  refl,
)

pub worked : SessionFigures
worked = record { lands = lands; grows = grows; refuses = reads; arena = arena }
