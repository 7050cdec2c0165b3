-- A fixed buffer keeps the rules of an allocator.
use Rattle.std.proofs.Common.{◌≡◌, ℕ, ◌+◌, ◌-◌, ◌<◌, ◌≤◌, min, true, leb, List, length, get_or, take, set, Ok, Err, sym, refl, ap, ◌∙◌, mod-eq_of_lt, arith, length-set, length-take}
use Rattle.std.proofs.lemmas.List.{get_or-take}
use Rattle.std.proofs.Math.Seq.{take-set-lt}
use Rattle.std.proofs.lemmas.Bool.{le-leb, lt-leb}
use Rattle.allocator.specs.Layouts.{pad}
use Rattle.allocator.specs.Memory.{spans, taken, fits}
use Rattle.allocator.specs.Answers.{Push, fitted, refused, Pop, Load, Store}
use Rattle.sub_allocator.specs.Buffers.{based, room, fixed}
use Rattle.allocator.specs.declared.fault.Fault.TheVariants.{DoesNotFit}
use Rattle.allocator.specs.declared.fault.Cause.TheVariants.{FixedBuffer}
use Rattle.allocator.proofs.Spans.{spans-from}

-- where base and mark are within the limits of the type
module _ (base used : ℕ) (bytes : List ℕ) (low : base < 140737488355328) (inside : used ≤ room bytes) where
  at-base : based base ≡ base
  at-base = mod-eq_of_lt low

  at-mark : (mark : ℕ) → mark ≤ room bytes → min mark (room bytes) ≡ mark
  at-mark mark under = omega arith

  usable : length (take 140737488355328 bytes) ≡ room bytes
  usable = let e = length-take 140737488355328 bytes in omega arith

  module _ (size align p : ℕ) (pad_is : p ≡ pad (base + used) align) where
    fits-is : fits (fixed base used bytes) size align ≡ leb (p + size) (room bytes - used)
    fits-is = rw (at-base, at-mark used inside, pad_is, usable) refl

    pub unfit : room bytes - used < p + size → Push (fixed base used bytes) size align (Err (DoesNotFit FixedBuffer)) (fixed base used bytes)
    unfit over = refused (fits-is ∙ lt-leb (p + size) (room bytes - used) over) FixedBuffer refl refl

    pub fit : p + size ≤ room bytes - used → fits (fixed base used bytes) size align ≡ true
    fit under = fits-is ∙ le-leb (p + size) (room bytes - used) under

    pub served : p + size ≤ room bytes - used → Push (fixed base used bytes) size align (Ok (base + used + p)) (fixed base (used + (p + size)) bytes)
    served under =
        let after = at-mark (used + (p + size)) (omega arith) in
        fitted (fit under) (rw (at-base, at-mark used inside, pad_is) refl) (rw (after, at-base, at-mark used inside, pad_is) refl)

  -- an address below the mark
  module _ (i : ℕ) (below : i < used) where
    here : spans base used (base + i) ≡ true
    here = spans-from base used (base + i) (omega arith) (omega arith)

    on : taken (fixed base used bytes) (base + i) ≡ true
    on = rw (at-base, at-mark used inside, here) refl

    in-block : spans base (length (take 140737488355328 bytes)) (base + i) ≡ true
    in-block = let e = usable in spans-from base (length (take 140737488355328 bytes)) (base + i) (omega arith) (omega arith)

    from-base : base + i - base ≡ i
    from-base = omega arith

    short : i < 140737488355328
    short = omega arith

    pub pop-found : Pop (fixed base used bytes) (base + i) (Ok tt) (fixed base i bytes)
    pop-found = record { answer = rw on refl; after = rw (at-base, at-mark used inside, at-mark i (omega arith), here, from-base) refl }

    pub load-found : Load (fixed base used bytes) (base + i) (Ok (get_or bytes i 0))
    load-found = rw (on, at-base, in-block, from-base) (ap Ok (sym (get_or-take 140737488355328 bytes i 0 short)))

    pub store-found : (byte : ℕ) → Store (fixed base used bytes) (base + i) byte (Ok tt) (fixed base used (set bytes i byte))
    store-found byte = record { answer = rw on refl; after = rw (on, at-base, in-block, from-base, length-set bytes i byte, take-set-lt 140737488355328 bytes i byte short) refl }
