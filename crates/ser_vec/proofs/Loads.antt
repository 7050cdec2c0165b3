-- Bytes loaded one by one are a run of the session, and are those of the memory.
use Rattle.std.proofs.Common.{◌≡◌, ℕ, ◌+◌, ◌<◌, ◌≤◌, ◌≢◌, List, ◌∷◌, length, Err, Result, get_or, take, set, sym, refl, ap, ◌∙◌, subst, inl, inr, add-one, arith}
use Rattle.std.proofs.lemmas.List.FromFn.{get_or-map-range_with_len, fill_by_all}
use Rattle.std.proofs.lemmas.List.{get_or-take, length-take-le, get_or-set_same, get_or-set_other}
use Rattle.std.proofs.lemmas.Bool.{cases_lt}
use Rattle.allocator.specs.Memory.{byte_at}
use Rattle.allocator.specs.declared.Allocator.{Ghosts}
use Rattle.allocator.specs.declared.fault.Fault.TheVariants.{Address}
use Rattle.kind.specs.declared.Kind as kinds
use Rattle.session.specs.Ledger.{Span}
use Rattle.session.specs.Records.{Held}
use Rattle.session.specs.Calls.{event, load, byte, refused}
use Rattle.session.specs.Steps.{State, Step, loads, refuses, load_not_live, load_outside, load_untaken}
use Rattle.session.specs.Sessions.{state, Performs}
use Rattle.session.specs.Runs.{Run, opened, visited}
use Rattle.session.specs.declared.fault.Fault.{Fault}
use Rattle.session.specs.declared.fault.Fault.TheVariants.{Allocator}
use Rattle.session.specs.declared.session.Session.{Session}
use Rattle.session.specs.Records.{Unique}
use Rattle.session.proofs.Records.{grants-unique}
use Rattle.ser_vec.specs.Elements.{source, loads_of, Room, Loaded, Reads}
use Rattle.ser_vec.specs.declared.fault.Fault as ours
use Rattle.ser_vec.specs.declared.fault.Fault.TheVariants.{Session as Nested}

-- what a load that is answered says of the grant's one span
load-done : {s : State} {grant offset v : ℕ} {s' : State} (at size : ℕ) → Unique s.live → Held s.live grant at size → Step s (load grant offset) (byte v) s' →
    v ≡ byte_at s.memory (at + offset)
load-done {s = s} {offset = offset} at size unique (span, here, same, is_at, sized) (loads span' _ here' less on) =
    ap (λ a. byte_at s.memory (a + offset)) (ap (λ (x : Span). x.at) (unique span' span here' here (sym same)) ∙ is_at)

load-refused : {s : State} {grant offset : ℕ} {fault : Fault} {s' : State} (at size : ℕ) → Unique s.live → Held s.live grant at size → offset < size →
    Step s (load grant offset) (refused fault) s' → fault ≡ Allocator Address
load-refused at size unique (span, here, same, is_at, sized) inside (refuses (load_not_live dead)) = absurd (dead (span, here, same))
load-refused at size unique (span, here, same, is_at, sized) inside (refuses (load_outside span' here' far)) =
    absurd (omega (arith, ap (λ (x : Span). x.size) (unique span' span here' here (sym same))))
load-refused at size unique held inside (refuses (load_untaken span' here' less off)) = refl

module _ {A K : Type 0} (al : Ghosts A) (kind : kinds.Ghosts K) (s : Session A) (grant at offset : ℕ) where
  -- the bytes of the element
  abbrev bs : List ℕ
  bs = source al s grant at offset kind

  -- the first n loads were answered, and the buffer begins with what they answered
  pub record Read (n : ℕ) (buffer : List ℕ) : Type 0 where
    pub run : Run al s (loads_of grant offset bs n) s
    pub same : (k : ℕ) → k < n → get_or buffer k 0 ≡ byte_at (state al s).memory (at + offset + k)

  pub read-none : (buffer : List ℕ) → Read 0 buffer
  read-none buffer = record { run = opened; same = λ k less. absurd (omega arith) }

  pub read-all : (n : ℕ) (buffer : List ℕ) → n ≡ kind.wide → n ≤ length buffer → (x : K) → x ≡ kind.unpacked (take kind.wide buffer) → Read n buffer → Loaded al s grant at offset kind x
  read-all n buffer e long x is read =
      let whole : take kind.wide buffer ≡ bs =
      fill_by_all (λ k. byte_at (state al s).memory (at + offset + k)) (take kind.wide buffer) kind.wide 0 (length-take-le kind.wide buffer (omega arith))
      (λ k less. get_or-take kind.wide buffer k 0 less ∙ read.same k (omega arith)) in
      record { value = is ∙ ap kind.unpacked whole; run = subst (λ j. Run al s (loads_of grant offset bs j) s) e read.run }

  module _ (room : Room al s grant at offset kind.wide) (n : ℕ) (less : n < kind.wide) (buffer : List ℕ) (sofar : Read n buffer) where
    at-n : get_or bs n 0 ≡ byte_at (state al s).memory (at + offset + n)
    at-n = get_or-map-range_with_len (λ k. byte_at (state al s).memory (at + offset + k)) 0 kind.wide n n 0 less (omega arith)

    pub read-more : (value : ℕ) → n < length buffer → Performs al s (load grant (offset + n)) (byte value) s → Read (n + 1) (set buffer n value)
    read-more value short performs =
        let step = performs.step in
        let place : at + (offset + n) ≡ at + offset + n = omega arith in
        let is : value ≡ byte_at (state al s).memory (at + offset + n) = load-done at room.size (grants-unique al s) room.held step ∙ ap (λ x. byte_at (state al s).memory x) place in
        record {
          run = subst (λ j. Run al s (loads_of grant offset bs j) s) (sym (add-one n))
              (subst (λ v. Run al s (event (load grant (offset + n)) (byte v) ∷ loads_of grant offset bs n) s) (is ∙ sym at-n) (visited sofar.run performs));
          same = λ k less'. elim (cases_lt k n) [
            | inl before ↦ let ne : k ≢ n = omega arith in get_or-set_other buffer n k value 0 ne ∙ sofar.same k before
            | inr past ↦
                let here : k ≡ n = omega arith in
                ap (λ j. get_or (set buffer n value) j 0) here ∙ get_or-set_same buffer n value 0 short ∙ is ∙ ap (λ j. byte_at (state al s).memory (at + offset + j)) (sym here)
          ];
        }

    pub read-cut : {fault : Fault} {r : Result K ours.Fault} → r ≡ Err (Nested fault) → Performs al s (load grant (offset + n)) (refused fault) s → Reads al kind s grant at offset r
    read-cut {fault} e performs =
        let inside : offset + n < room.size = omega (arith, room.inside) in
        let why = load-refused at room.size (grants-unique al s) room.held inside performs.step in
        rw e (
          ap Nested why,
          record {
            n = n;
            less = less;
            run = subst (λ f. Run al s (event (load grant (offset + n)) (refused f) ∷ loads_of grant offset bs n) s) why (visited sofar.run performs);
          },
        )
