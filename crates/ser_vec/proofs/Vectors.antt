-- Each way through a call of a vector is as its rule says.
use Rattle.std.proofs.Common.{◌≡◌, ℕ, false, ◌&&◌, eqb, eq-eqb, ◌+◌, ◌-◌, ◌*◌, ◌<◌, ◌≤◌, List, [], ◌∷◌, ◌++◌, map, length, Some, None, Ok, Err, Option, Result, sym, refl, ap, ◌∙◌, subst, inl, inr, mul-le-mul_right, add-mul, one-mul, arith}
use Rattle.std.specs.Prelude.{MatchOption}
use Rattle.std.proofs.lemmas.Bool.{false≢true}
use Rattle.std.specs.List.{range_with_len}
use Rattle.std.proofs.lemmas.List.FromFn.{get_or-map-range_with_len, map-range_with_len_more}
use Rattle.allocator.specs.declared.Allocator.{Ghosts}
use Rattle.kind.specs.declared.Kind as kinds
use Rattle.session.specs.Ledger.{Span, new_span}
use Rattle.session.specs.Calls.{Answer, Event, event, push, pop, done, granted, refused}
use Rattle.session.specs.Records.{Held, NotAmong}
use Rattle.session.specs.Steps.{State, Step, serves}
use Rattle.session.specs.Sessions.{state, Performs}
use Rattle.session.specs.Runs.{opened, visited}
use Rattle.session.specs.declared.fault.Fault as session
use Rattle.session.specs.declared.grant.Grant.{Grant}
use Rattle.session.specs.declared.session.Session.{Session}
use Rattle.session.specs.Records.{Unique}
use Rattle.session.proofs.Records.{grants-unique}
use Rattle.ser_vec.specs.Elements.{element_at, packings, stores_of, stores_cut, loads_of, loads_cut, source, Room, Reads, Writes}
use Rattle.ser_vec.specs.Vectors.{clears, tells, absent, none, beyond, spanless, Vector, new_vector, plain, Formed, resized, Lives, Tested, Rule, not_live, live, Guarded, Reserving, enough, lacking, Extending, full, extended, extend_cut, Setting, replaced, set_cut, Getting, got, get_cut, Popping, popped, pop_cut, Closing, closed, stays, Opening, placed, unplaced, Went, Acts}
use Rattle.ser_vec.specs.declared.fault.Fault.{Fault}
use Rattle.ser_vec.specs.declared.fault.Fault.TheVariants.{Session as Nested}
use Rattle.ser_vec.specs.declared.header.Header.{Header}
use Rattle.ser_vec.proofs.Stores.{failed}
use Rattle.ser_vec.proofs.Lists.{elements-kept, elements-extended, elements-replaced, others-kept}

-- in a session where a grant is one span's, what is told of its span is all there is
pub told-span : (spans : List Span) (grant at size : ℕ) (told : Option (ℕ × ℕ)) → Unique spans → MatchOption told (NotAmong spans grant) (λ p. Held spans grant p.0 p.1) → Held spans grant at size →
    told ≡ Some (at, size)
told-span spans grant at size None unique unheld (span, here, e, ea, es) = absurd (unheld span here e)
told-span spans grant at size (Some (at', size')) unique (one, here, e, ea, es) (other, there, e', ea', es') =
    let same : one ≡ other = unique one other here there (e ∙ sym e') in
    let at_is : at' ≡ at = sym ea ∙ ap (λ (x : Span). x.at) same ∙ ea' in
    let size_is : size' ≡ size = sym es ∙ ap (λ (x : Span). x.size) same ∙ es' in
    rw (at_is, size_is)

pub same-pair : (a b : ℕ) → false ≡ (eqb a a && eqb b b) → ⊥
same-pair a b differ = false≢true (differ ∙ rw (eq-eqb a a refl, eq-eqb b b refl))

pub formed : (h : Option Header) {v : Vector} → plain h ≡ v → Formed v
formed h is = record { header = h; is = is }

-- a vector of another length that its capacity allows
pub formed-resized : (h : Header) (len : ℕ) → len ≤ h.cap → Formed (resized (plain (Some h)) len)
formed-resized h len fits = formed (Some (record { grant = h.grant; at = h.at; cap = h.cap; len = len; some = h.some; small = h.small; fits = fits })) refl

-- what a call did is told of formed vectors
acts : {A X : Type 0} {al : Ghosts A} {w : ℕ} {Does : Rule X} {v v' : Vector} {s s' : Session A} {r : Result X Fault} → Formed v → Formed v' →
    Went al s s' (λ events. Guarded w Does v (state al s) r events v' (state al s')) → Acts al w Does v s r v' s'
acts before after went = record { events = went.events; run = went.run; rule = (before, after, went.rule) }

module _ {A X : Type 0} {al : Ghosts A} {w : ℕ} {Does : Rule X} {v : Vector} {s : Session A} {r : Result X Fault} where
  pub dead : {fault : Fault} → Tested w v (state al s) (Err fault) → r ≡ Err fault → Acts al w Does v s r v s
  dead (why, denied, is) e =
      acts is is (record { events = []; run = opened; rule = rw (e, why) (not_live (denied (grants-unique al s))) })

  -- a call that asks nothing of the session
  pub alone : {v' : Vector} → Formed v → Formed v' → Lives w v (state al s) → Does v (state al s) r [] v' (state al s) → Acts al w Does v s r v' s
  alone before after lives does = acts before after (record { events = []; run = opened; rule = live lives does })

-- what does not fit is not appended
refused-guarded : {K : Type 0} {kind : kinds.Ghosts K} {w : ℕ} {xs : List K} {v : Vector} {s : State} {r : Result (Unit {0}) Fault} {events : List Event} {v' : Vector} {s' : State} {fault : Fault} →
    r ≡ Err fault → Guarded w (Reserving (length xs)) v s r events v' s' → Guarded w (Extending kind xs) v s r events v' s'
refused-guarded e (not_live dead) = not_live dead
refused-guarded e (live lives (enough fits)) = absurd (cc)
refused-guarded e (live lives (lacking short)) = live lives (full short)

pub unfit : {A K : Type 0} {al : Ghosts A} {kind : kinds.Ghosts K} {w : ℕ} {xs : List K} {v : Vector} {s : Session A} {r : Result (Unit {0}) Fault} {fault : Fault} →
    Acts al w (Reserving (length xs)) v s (Err fault) v s → r ≡ Err fault → Acts al w (Extending kind xs) v s r v s
unfit told e =
    let (before, after, rule) = told.rule in
    rw e (record { events = told.events; run = told.run; rule = (before, after, refused-guarded refl rule) })

-- the ways through a call that ask nothing of the session
pub ruleset unasked = (failed, formed, alone, unfit, tells, clears, enough, lacking, absent, none, beyond, spanless)

-- the answer and the vector after a call
abbrev pub some_of : {K : Type 0} → Result K Fault → Result (Option K) Fault
some_of (Ok x) = Ok (Some x)
some_of (Err fault) = Err fault

abbrev pub resized_if : {X : Type 0} → Vector → ℕ → Result X Fault → Vector
resized_if v len (Ok x) = resized v len
resized_if v len (Err fault) = v

module _ {A K : Type 0} (al : Ghosts A) (kind : kinds.Ghosts K) (h : Header) (s : Session A) (lives : Lives kind.wide (plain (Some h)) (state al s)) where
  abbrev w : ℕ
  w = kind.wide

  abbrev v : Vector
  v = plain (Some h)

  abbrev g : ℕ
  g = h.grant.number

  stands : Formed v
  stands = formed (Some h) refl

  room : (i n : ℕ) → i + n ≤ h.cap → Room al s g h.at (i * w) (n * w)
  room i n inside =
      record { size = h.cap * w; held = lives; inside = omega (arith, add-mul i n w, mul-le-mul_right w inside) }

  room-one : (i : ℕ) → i < h.cap → Room al s g h.at (i * w) w
  room-one i inside = subst (λ n. Room al s g h.at (i * w) n) (one-mul w) (room i 1 (omega arith))

  pub getting : (i : ℕ) → i < h.len → (r : Result K Fault) → (Room al s g h.at (i * w) w → Reads al kind s g h.at (i * w) r) → Acts al w (Getting kind i) v s (some_of r) v s
  getting i less (Ok x) told =
      let loaded = told (room-one i (omega arith)) in
      acts stands stands (record {
        events = loads_of g (i * w) (source al s g h.at (i * w) kind) w;
        run = loaded.run;
        rule = live lives (got x less (loaded.value ∙ sym (get_or-map-range_with_len (element_at kind (state al s).memory h.at) 0 h.len i i x less (omega arith))));
      })
  getting i less (Err fault) told =
      let (why, cut) = told (room-one i (omega arith)) in
      acts stands stands (record { events = loads_cut g (i * w) (source al s g h.at (i * w) kind) cut.n; run = cut.run; rule = rw why (live lives (get_cut cut.n less cut.less)) })

  pub popping : 0 < h.len → (r : Result K Fault) → (Room al s g h.at ((h.len - 1) * w) w → Reads al kind s g h.at ((h.len - 1) * w) r) → Acts al w (Popping kind) v s (some_of r) (resized_if v (h.len - 1) r) s
  popping some (Ok x) told =
      let loaded = told (room-one (h.len - 1) (omega arith)) in
      let f = element_at kind (state al s).memory h.at in
      let is_len : h.len ≡ h.len - 1 + 1 = omega arith in
      let split : map f (range_with_len 0 h.len) ≡ map f (range_with_len 0 (h.len - 1)) ++ x ∷ [] =
      ap (λ n. map f (range_with_len 0 n)) is_len ∙ map-range_with_len_more f 0 (h.len - 1) (h.len - 1) (omega arith)
      ∙ ap (λ y. map f (range_with_len 0 (h.len - 1)) ++ y ∷ []) (sym loaded.value) in
      acts stands (formed-resized h (h.len - 1) (omega (arith, h.fits))) (record { events = loads_of g ((h.len - 1) * w) (source al s g h.at ((h.len - 1) * w) kind) w; run = loaded.run; rule = live lives (popped x some split) })
  popping some (Err fault) told =
      let (why, cut) = told (room-one (h.len - 1) (omega arith)) in
      acts stands stands (record { events = loads_cut g ((h.len - 1) * w) (source al s g h.at ((h.len - 1) * w) kind) cut.n; run = cut.run; rule = rw why (live lives (pop_cut cut.n some cut.less)) })

  module _ (exact : (x : K) → length (kind.packed x) ≡ kind.wide) (again : (x : K) → kind.unpacked (kind.packed x) ≡ x) (s' : Session A) where
    pub extending : (xs : List K) → length xs ≤ h.cap - h.len → (r : Result (Unit {0}) Fault) →
        (Room al s g h.at (h.len * w) (length xs * w) → Writes al s g h.at (h.len * w) (packings kind xs) (length xs * w) r s') →
        Acts al w (Extending kind xs) v s r (resized_if v (h.len + length xs) r) s'
    extending xs fits (Ok u) told =
        let stored = told (room h.len (length xs) (omega (arith, h.fits))) in
        acts stands (formed-resized h (h.len + length xs) (omega (arith, h.fits))) (record {
          events = stores_of g (h.len * w) (packings kind xs) (length xs * w);
          run = stored.run;
          rule = live lives (extended fits (elements-extended kind exact again (state al s).memory (state al s').memory h.at h.len xs stored.laid.there (λ to low. stored.laid.elsewhere to (inl low))));
        })
    extending xs fits (Err fault) told =
        let (why, cut) = told (room h.len (length xs) (omega (arith, h.fits))) in
        acts stands stands (record {
          events = stores_cut g (h.len * w) (packings kind xs) cut.n;
          run = cut.run;
          rule = rw why (live lives (extend_cut cut.n fits cut.less (elements-kept kind exact again (state al s).memory (state al s').memory h.at h.len (λ to low. cut.laid.elsewhere to (inl low)))));
        })

    pub setting : (i : ℕ) (x : K) → i < h.len → (r : Result (Unit {0}) Fault) → (Room al s g h.at (i * w) (1 * w) → Writes al s g h.at (i * w) (packings kind (x ∷ [])) (1 * w) r s') →
        Acts al w (Setting kind i x) v s r v s'
    setting i x less (Ok u) told =
        let stored = told (room i 1 (omega (arith, h.fits))) in
        acts stands stands (record {
          events = stores_of g (i * w) (packings kind (x ∷ [])) (1 * w);
          run = stored.run;
          rule = live lives (replaced less (elements-replaced kind exact again (state al s).memory (state al s').memory h.at h.len i stored.laid.elsewhere x less stored.laid.there));
        })
    setting i x less (Err fault) told =
        let (why, cut) = told (room i 1 (omega (arith, h.fits))) in
        acts stands stands (record {
          events = stores_cut g (i * w) (packings kind (x ∷ [])) cut.n;
          run = cut.run;
          rule = rw why (live lives (set_cut cut.n less cut.less (others-kept kind exact again (state al s).memory (state al s').memory h.at h.len i
              (λ to out. cut.laid.elsewhere to (elim out [ inl low ↦ inl low | inr high ↦ inr (omega (arith, cut.less)) ])))));
        })

  module _ (s' : Session A) where
    pub closing : Performs al s (pop g) done s' → Acts al w Closing v s (Ok tt) v s'
    closing performs = acts stands stands (record { events = event (pop g) done ∷ []; run = visited opened performs; rule = live lives (closed h.some) })

    pub closing-refused : (fault : session.Fault) → Performs al s (pop g) (refused fault) s' → Acts al w Closing v s (Err (Nested fault)) v s'
    closing-refused fault performs = acts stands stands (record { events = event (pop g) (refused fault) ∷ []; run = visited opened performs; rule = live lives (stays fault h.some) })

-- opening
served-live : {s : State} {size align n at : ℕ} {s' : State} → Step s (push size align) (granted n at) s' → s'.live ≡ new_span n at size align ∷ s.live
served-live (serves sized aligning few rule) = refl

module _ {A K : Type 0} (al : Ghosts A) (kind : kinds.Ghosts K) (cap : ℕ) (s s' : Session A) (w' a' : ℕ) (e : w' ≡ kind.wide) (e' : a' ≡ kind.aligned) (some : 0 < cap) (less : cap * w' ≤ 16777216) where
  performs-as : (answer : Answer) → Performs al s (push (cap * w') a') answer s' → Performs al s (push (cap * kind.wide) kind.aligned) answer s'
  performs-as answer performs = subst (λ n. Performs al s (push (cap * n) kind.aligned) answer s') e (subst (λ a. Performs al s (push (cap * w') a) answer s') e' performs)

  less-as : cap * kind.wide ≤ 16777216
  less-as = subst (λ n. cap * n ≤ 16777216) e less

  pub opening : (g : Grant) (at : ℕ) → Performs al s (push (cap * w') a') (granted g.number at) s' →
      Went al s s' (λ events. Opening kind cap (state al s) (Ok (new_vector (Some g) at cap 0)) events (state al s'))
  opening g at performs =
      let did = performs-as (granted g.number at) performs in
      let spans = served-live did.step in
      let held : Held (state al s').live g.number at (cap * kind.wide) =
      subst (λ l. Held l g.number at (cap * kind.wide)) (sym spans) (new_span g.number at (cap * kind.wide) kind.aligned, inl refl, refl, refl, refl) in
      record {
        events = event (push (cap * kind.wide) kind.aligned) (granted g.number at) ∷ [];
        run = visited opened did;
        rule = placed g at some less-as held;
      }

  pub opening-refused : (fault : session.Fault) → Performs al s (push (cap * w') a') (refused fault) s' →
      Went al s s' (λ events. Opening kind cap (state al s) (Err (Nested fault)) events (state al s'))
  opening-refused fault performs =
      record {
        events = event (push (cap * kind.wide) kind.aligned) (refused fault) ∷ [];
        run = visited opened (performs-as (refused fault) performs);
        rule = unplaced fault some less-as;
      }
