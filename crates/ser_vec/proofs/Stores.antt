-- Bytes stored one by one are a run of the session, and stand where they were stored.
use Rattle.std.proofs.Common.{◌≡◌, ℕ, suc, zero, ◌+◌, ◌-◌, ◌*◌, ◌<◌, ◌≤◌, true, ◌≢◌, ◌⊎◌, List, [], ◌∷◌, ◌++◌, length, Err, Result, get_or, sym, refl, ap, ◌∙◌, subst, inl, inr, mul-le-mul_right, suc-mul, add-mul, add-one, add-zero, add-suc, add_assoc, one-mul, arith}
use Rattle.std.specs.Result.{IsErrAnd}
use Rattle.std.proofs.lemmas.List.{append-nil}
use Rattle.std.proofs.lemmas.Result.{err_from_is_err_and}
use Rattle.std.proofs.lemmas.Bool.{cases_lt}
use Rattle.allocator.specs.Memory.{within, taken, byte_at, stored}
use Rattle.allocator.specs.declared.Allocator.{Ghosts}
use Rattle.allocator.specs.declared.fault.Fault.TheVariants.{Address}
use Rattle.allocator.proofs.Spans.{taken-within}
use Rattle.kind.specs.declared.Kind as kinds
use Rattle.session.specs.Ledger.{Span}
use Rattle.session.specs.Records.{Held}
use Rattle.session.specs.Calls.{Event, event, Answer, store, done, refused}
use Rattle.session.specs.Steps.{State, new_state, Step, stores, refuses, store_not_live, store_outside, store_untaken}
use Rattle.session.specs.Sessions.{state, Performs}
use Rattle.session.specs.Runs.{Run, opened, visited}
use Rattle.session.specs.declared.fault.Fault.{Fault}
use Rattle.session.specs.declared.fault.Fault.TheVariants.{Allocator}
use Rattle.session.specs.declared.session.Session.{Session}
use Rattle.session.proofs.Blocks.{byte_at-stored, byte_at-other}
use Rattle.session.specs.Records.{Unique}
use Rattle.session.proofs.Records.{grants-unique}
use Rattle.session.proofs.Laws.{run-after}
use Rattle.ser_vec.specs.Elements.{stores_of, packings, Laid, Room, Stored, StoredCut, Writes}
use Rattle.ser_vec.specs.declared.fault.Fault as ours
use Rattle.ser_vec.specs.declared.fault.Fault.TheVariants.{Session as Nested}
use Rattle.ser_vec.proofs.Packings.{joined-at}

-- what the exit of a `?` returns
pub failed : {T E : Type 0} {b : E} (r : Result T E) → IsErrAnd r (λ y. y ≡ b) → r ≡ Err b
failed r told = let (y, is, same) = err_from_is_err_and r told in is ∙ ap Err same

-- what a store that is done says of the grant's one span
store-done : {s : State} {grant offset v : ℕ} {s' : State} (at size : ℕ) → Unique s.live → Held s.live grant at size → Step s (store grant offset v) done s' →
    (taken s.memory (at + offset) ≡ true) × (s' ≡ new_state (stored s.memory (at + offset) v) s.live s.given)
store-done {s = s} {offset = offset} {v = v} at size unique (span, here, same, is_at, sized) (stores span' _ _ here' less on) =
    let is : span'.at ≡ at = ap (λ (x : Span). x.at) (unique span' span here' here (sym same)) ∙ is_at in (
      subst (λ a. taken s.memory (a + offset) ≡ true) is on,
      ap (λ a. new_state (stored s.memory (a + offset) v) s.live s.given) is,
    )

-- and one that is refused inside the span
store-refused : {s : State} {grant offset v : ℕ} {fault : Fault} {s' : State} (at size : ℕ) → Unique s.live → Held s.live grant at size → offset < size →
    Step s (store grant offset v) (refused fault) s' → (fault ≡ Allocator Address) × (s' ≡ s)
store-refused at size unique (span, here, same, is_at, sized) inside (refuses (store_not_live dead)) = absurd (dead (span, here, same))
store-refused at size unique (span, here, same, is_at, sized) inside (refuses (store_outside span' here' far)) =
    absurd (omega (arith, ap (λ (x : Span). x.size) (unique span' span here' here (sym same))))
store-refused at size unique held inside (refuses (store_untaken span' here' less off)) = (refl, refl)

pub laid-none : (s : State) (at : ℕ) (bs : List ℕ) → Laid s at bs 0 s
laid-none s at bs = record { live = refl; given = refl; there = λ k less. absurd (omega arith); elsewhere = λ to out. refl }

laid-more : (s s₁ s₂ : State) (at : ℕ) (bs : List ℕ) (n v to : ℕ) → Laid s at bs n s₁ → v ≡ get_or bs n 0 → to ≡ at + n → within s₁.memory to ≡ true →
    s₂ ≡ new_state (stored s₁.memory to v) s₁.live s₁.given → Laid s at bs (n + 1) s₂
laid-more s s₁ s₂ at bs n v to laid value place inside is =
    let m = s₁.memory in
    let after : (x : ℕ) → byte_at s₂.memory x ≡ byte_at (stored m to v) x = λ x. ap (λ (z : State). byte_at z.memory x) is in
    record {
      live = ap (λ (z : State). z.live) is ∙ laid.live;
      given = ap (λ (z : State). z.given) is ∙ laid.given;
      there = λ k less. elim (cases_lt k n) [
        | inl before ↦ let ne : at + k ≢ to = omega arith in after (at + k) ∙ byte_at-other m to v (at + k) ne ∙ laid.there k before
        | inr past ↦
            let here : k ≡ n = omega arith in
            ap (λ j. byte_at s₂.memory (at + j)) here ∙ ap (λ x. byte_at s₂.memory x) (sym place) ∙ after to ∙ byte_at-stored m to v inside ∙ value ∙ ap (λ j. get_or bs j 0) (sym here)
      ];
      elsewhere = λ x out.
          let ne : x ≢ to = elim out [ inl low ↦ omega arith | inr high ↦ omega arith ] in
          let out' : (x < at) ⊎ (at + n ≤ x) = elim out [ inl low ↦ inl low | inr high ↦ inr (omega arith) ] in
          after x ∙ byte_at-other m to v x ne ∙ laid.elsewhere x out';
    }

module _ {A : Type 0} (al : Ghosts A) (s : Session A) (grant at offset : ℕ) (bs : List ℕ) where
  pub stored-none : Stored al s grant at offset bs 0 s
  stored-none = record { run = opened; laid = laid-none (state al s) (at + offset) bs }

  module _ (most : ℕ) (room : Room al s grant at offset most) (n value : ℕ) (less : n < most) (is : value ≡ get_or bs n 0) (s₁ s₂ : Session A)
      (sofar : Stored al s grant at offset bs n s₁) where
    still : Held (state al s₁).live grant at room.size
    still = subst (λ l. Held l grant at room.size) (sym sofar.laid.live) room.held

    next-run : {last : Event} → last ≡ event (store grant (offset + n) (get_or bs n 0)) done → Run al s (last ∷ stores_of grant offset bs n) s₂ → Run al s (stores_of grant offset bs (n + 1)) s₂
    next-run {last} e run = subst (λ j. Run al s (stores_of grant offset bs j) s₂) (sym (add-one n)) (subst (λ x. Run al s (x ∷ stores_of grant offset bs n) s₂) e run)

    pub stored-more : Performs al s₁ (store grant (offset + n) value) done s₂ → Stored al s grant at offset bs (n + 1) s₂
    stored-more performs =
        let (on, after) = store-done at room.size (grants-unique al s₁) still performs.step in
        let place : at + (offset + n) ≡ at + offset + n = omega arith in
        let inside = taken-within (state al s₁).memory (at + (offset + n)) (al.lawful s₁.inner) on in
        let laid = laid-more (state al s) (state al s₁) (state al s₂) (at + offset) bs n value (at + (offset + n)) sofar.laid is place inside after in
        record {
          run = next-run (ap (λ v. event (store grant (offset + n) v) done) is) (visited sofar.run performs);
          laid = laid;
        }

    pub stored-cut : {fault : Fault} {r : Result (Unit {0}) ours.Fault} → r ≡ Err (Nested fault) → Performs al s₁ (store grant (offset + n) value) (refused fault) s₂ →
        Writes al s grant at offset bs most r s₂
    stored-cut {fault} e performs =
        let inside : offset + n < room.size = omega (arith, room.inside) in
        let (why, same) = store-refused at room.size (grants-unique al s₁) still inside performs.step in
        let last : event (store grant (offset + n) value) (refused fault) ≡ event (store grant (offset + n) (get_or bs n 0)) (refused (Allocator Address)) =
        ap (λ v. event (store grant (offset + n) v) (refused fault)) is ∙ ap (λ f. event (store grant (offset + n) (get_or bs n 0)) (refused f)) why in
        rw e (
          ap Nested why,
          record {
            n = n;
            less = less;
            run = subst (λ x. Run al s (x ∷ stores_of grant offset bs n) s₂) last (visited sofar.run performs);
            laid = subst (λ (z : State). Laid (state al s) (at + offset) bs n z) (sym same) sofar.laid;
          },
        )

pub packing-of-one : {K : Type 0} (kind : kinds.Ghosts K) (x : K) (j : ℕ) {v : ℕ} → v ≡ get_or (kind.packed x) j 0 → v ≡ get_or (packings kind (x ∷ [])) j 0
packing-of-one kind x j read = read ∙ ap (λ (z : List ℕ). get_or z j 0) (sym (append-nil (kind.packed x)))

-- bytes that were stored, and then more of the same bytes
module _ (bs cs : List ℕ) (n most : ℕ) (same : (j : ℕ) → j < most → get_or cs j 0 ≡ get_or bs (n + j) 0) where
  event-after : (grant o k : ℕ) → k < most → (answer : Answer) → event (store grant (o + n + k) (get_or cs k 0)) answer ≡ event (store grant (o + (n + k)) (get_or bs (n + k) 0)) answer
  event-after grant o k less answer =
      ap (λ a. event (store grant a (get_or cs k 0)) answer) (add_assoc o n k) ∙ ap (λ v. event (store grant (o + (n + k)) v) answer) (same k less)

  stores-after : (grant o k : ℕ) → k ≤ most → stores_of grant (o + n) cs k ++ stores_of grant o bs n ≡ stores_of grant o bs (n + k)
  stores-after grant o zero less = ap (stores_of grant o bs) (sym (add-zero n))
  stores-after grant o (suc k) less =
      ap (λ (e : Event). e ∷ (stores_of grant (o + n) cs k ++ stores_of grant o bs n)) (event-after grant o k (omega arith) done)
      ∙ ap (λ (es : List Event). event (store grant (o + (n + k)) (get_or bs (n + k) 0)) done ∷ es) (stores-after grant o k (omega arith)) ∙ ap (stores_of grant o bs) (sym (add-suc n k))

  laid-after : {s s₁ s₂ : State} (at k : ℕ) → k ≤ most → Laid s at bs n s₁ → Laid s₁ (at + n) cs k s₂ → Laid s at bs (n + k) s₂
  laid-after {s = s} {s₁ = s₁} {s₂ = s₂} at k less one two =
      record {
        live = two.live ∙ one.live;
        given = two.given ∙ one.given;
        there = λ j inside. elim (cases_lt j n) [
          | inl before ↦ two.elsewhere (at + j) (inl (omega arith)) ∙ one.there j before
          | inr past ↦
              let q = j - n in
              let is : n + q ≡ j = omega arith in
              let place : at + j ≡ at + n + q = omega arith in
              ap (byte_at s₂.memory) place ∙ two.there q (omega arith) ∙ same q (omega arith) ∙ ap (λ m. get_or bs m 0) is
        ];
        elsewhere = λ to out. elim out [
          | inl low ↦ two.elsewhere to (inl (omega arith)) ∙ one.elsewhere to (inl low)
          | inr high ↦ two.elsewhere to (inr (omega arith)) ∙ one.elsewhere to (inr (omega arith))
        ];
      }

  module _ {A : Type 0} (al : Ghosts A) (s s₁ s₂ : Session A) (grant at o : ℕ) (sofar : Stored al s grant at o bs n s₁) where
    place-is : at + (o + n) ≡ at + o + n
    place-is = omega arith

    pub stored-after : Stored al s₁ grant at (o + n) cs most s₂ → Stored al s grant at o bs (n + most) s₂
    stored-after more =
        record {
          run = subst (λ (es : List Event). Run al s es s₂) (stores-after grant o most (omega arith)) (run-after al sofar.run more.run);
          laid = laid-after (at + o) most (omega arith) sofar.laid (subst (λ a. Laid (state al s₁) a cs most (state al s₂)) place-is more.laid);
        }

    pub cut-after : (whole : ℕ) → n + most ≤ whole → StoredCut al s₁ grant at (o + n) cs most s₂ → StoredCut al s grant at o bs whole s₂
    cut-after whole inside cut =
        let few : cut.n ≤ most = omega (arith, cut.less) in
        record {
          n = n + cut.n;
          less = omega (arith, cut.less);
          run = subst (λ (es : List Event). Run al s es s₂)
              (ap (λ (e : Event). e ∷ (stores_of grant (o + n) cs cut.n ++ stores_of grant o bs n)) (event-after grant o cut.n cut.less (refused (Allocator Address)))
              ∙ ap (λ (es : List Event). event (store grant (o + (n + cut.n)) (get_or bs (n + cut.n) 0)) (refused (Allocator Address)) ∷ es) (stores-after grant o cut.n few))
              (run-after al sofar.run cut.run);
          laid = laid-after (at + o) cut.n few sofar.laid (subst (λ a. Laid (state al s₁) a cs cut.n (state al s₂)) place-is cut.laid);
        }

-- the packings of the first elements were stored, and then that of the next
module _ {A K : Type 0} (al : Ghosts A) (kind : kinds.Ghosts K) (exact : (x : K) → length (kind.packed x) ≡ kind.wide) (s s₁ s₂ : Session A) (grant at index i : ℕ) (xs : List K) (x : K)
    (here : i < length xs) (is : x ≡ get_or xs i x) (room : Room al s grant at (index * kind.wide) (length xs * kind.wide))
    (sofar : Stored al s grant at (index * kind.wide) (packings kind xs) (i * kind.wide) s₁) where
  abbrev w : ℕ
  w = kind.wide

  inside : i * w + 1 * w ≤ length xs * w
  inside = omega (arith, suc-mul i w, one-mul w, mul-le-mul_right w here)

  offset-is : (index + i) * w ≡ index * w + i * w
  offset-is = add-mul index i w

  room-next : Room al s₁ grant at ((index + i) * w) (1 * w)
  room-next = record { size = room.size; held = subst (λ l. Held l grant at room.size) (sym sofar.laid.live) room.held; inside = omega (arith, offset-is, inside, room.inside) }

  same-bytes : (j : ℕ) → j < 1 * w → get_or (packings kind (x ∷ [])) j 0 ≡ get_or (packings kind xs) (i * w + j) 0
  same-bytes j less =
      let less' : j < w = omega (arith, one-mul w) in
      sym (packing-of-one kind x j refl) ∙ ap (λ (y : K). get_or (kind.packed y) j 0) is ∙ sym (joined-at kind.packed w exact xs i j x here less')

  pub next-stored : (Room al s₁ grant at ((index + i) * w) (1 * w) → Stored al s₁ grant at ((index + i) * w) (packings kind (x ∷ [])) (1 * w) s₂) →
      Stored al s grant at (index * w) (packings kind xs) ((i + 1) * w) s₂
  next-stored told =
      subst (λ m. Stored al s grant at (index * w) (packings kind xs) m s₂) (sym (add-mul i 1 w))
      (stored-after (packings kind xs) (packings kind (x ∷ [])) (i * w) (1 * w) same-bytes al s s₁ s₂ grant at (index * w) sofar
      (subst (λ o. Stored al s₁ grant at o (packings kind (x ∷ [])) (1 * w) s₂) offset-is (told room-next)))

  pub next-cut : {fault : ours.Fault} {r : Result (Unit {0}) ours.Fault} → r ≡ Err fault →
      (Room al s₁ grant at ((index + i) * w) (1 * w) → (fault ≡ Nested (Allocator Address)) × StoredCut al s₁ grant at ((index + i) * w) (packings kind (x ∷ [])) (1 * w) s₂) →
      Writes al s grant at (index * w) (packings kind xs) (length xs * w) r s₂
  next-cut e told =
      let (why, cut) = told room-next in
      rw e (
        why,
        cut-after (packings kind xs) (packings kind (x ∷ [])) (i * w) (1 * w) same-bytes al s s₁ s₂ grant at (index * w) sofar (length xs * w) inside
            (subst (λ o. StoredCut al s₁ grant at o (packings kind (x ∷ [])) (1 * w) s₂) offset-is cut),
      )
