-- The letters and the sizes of a card, one entry after another. Assumes nothing.
use Rattle.std.proofs.Common.{◌≡◌, ℕ, ◌+◌, ◌<◌, ◌≤◌, List, [], ◌∷◌, ◌++◌, length, get_or, drop, decimal, sym, refl, ap, ◌∙◌, subst, arith}
use Rattle.std.proofs.lemmas.List.{append_assoc, append-nil, drop_more, drop_all}
use Rattle.cards.specs.declared.Entry.{Entry}
use Rattle.cards.specs.declared.Letter.{Letter}
use Rattle.cards.specs.Letters.{letter_of}
use Rattle.cards.specs.Read.{Lines}
use Rattle.cards.specs.Written.{sizes, Sound}
use Rattle.cards.proofs.Decimals.{same-number}

same-letter : (l l' : Letter) → letter_of l ≡ letter_of l' → l ≡ l'
same-letter l l' e = grind arith

same-entry : (e e' : Entry) → e.letter ≡ e'.letter → e.size ≡ e'.size → e ≡ e'
same-entry e e' p q = λ i. record { letter = p i; size = q i }

-- a space follows a size, unless no letter is left
abbrev pub Apart : List ℕ → List ℕ → List ℕ → Type 0
Apart [] next rest = next ≡ rest
Apart (l ∷ ls) next rest = next ≡ 32 ∷ rest

apart-same : (ls next next' rest rest' : List ℕ) → next ≡ next' → Apart ls next rest → Apart ls next' rest' → rest ≡ rest'
apart-same [] next next' rest rest' e p q = cc
apart-same (l ∷ ls) next next' rest rest' e p q = cc

-- the first entry of two lines, and the byte that ends its size
pub record First (l : ℕ) (ls ss : List ℕ) (es : List Entry) : Type 0 where
  pub entry : Entry
  pub others : List Entry
  pub end : ℕ
  pub next : List ℕ
  pub are : es ≡ entry ∷ others
  pub named : letter_of entry.letter ≡ l
  pub sound : Sound entry
  pub low : end < 48
  pub begins : ss ≡ decimal entry.size ++ end ∷ next
  pub rest : List ℕ
  pub apart : Apart ls (end ∷ next) rest
  pub lines : Lines ls rest others

pub first : (l : ℕ) (ls ss : List ℕ) (es : List Entry) → Lines (l ∷ ls) ss es → First l ls ss es
first l ls ss [] h = absurd (omega (arith, ap length h.letters_are))
first l [] ss (e ∷ []) h =
    record {
      entry = e;
      others = [];
      end = 10;
      next = [];
      are = refl;
      named = cc h.letters_are;
      sound = h.sound.0;
      low = omega arith;
      begins = sym h.sizes_are;
      rest = 10 ∷ [];
      apart = refl;
      lines = record { letters_are = refl; sizes_are = refl; sound = tt };
    }
first l (m ∷ ls) ss (e ∷ []) h = absurd (omega (arith, ap length h.letters_are))
first l [] ss (e ∷ f ∷ es) h = absurd (omega (arith, ap length h.letters_are))
first l (m ∷ ls) ss (e ∷ f ∷ es) h =
    record {
      entry = e;
      others = f ∷ es;
      end = 32;
      next = sizes (f ∷ es) ++ 10 ∷ [];
      are = refl;
      named = cc h.letters_are;
      sound = h.sound.0;
      low = omega arith;
      begins = sym h.sizes_are ∙ append_assoc (decimal e.size) (32 ∷ sizes (f ∷ es)) (10 ∷ []);
      rest = sizes (f ∷ es) ++ 10 ∷ [];
      apart = refl;
      lines = record { letters_are = cc h.letters_are; sizes_are = refl; sound = h.sound.1 };
    }

-- an entry in front of those that two lines are of
put-first : (l : ℕ) (ls ss next rest : List ℕ) (e : Entry) (es : List Entry) → letter_of e.letter ≡ l → Sound e → ss ≡ decimal e.size ++ next → Apart ls next rest → Lines ls rest es → Lines (l ∷ ls) ss (e ∷ es)
put-first l [] ss next rest e [] name ok begins apart h =
    record { letters_are = ap (λ c. c ∷ []) name; sizes_are = ap (λ n. decimal e.size ++ n) (h.sizes_are ∙ sym apart) ∙ sym begins; sound = (ok, tt) }
put-first l (m ∷ ls) ss next rest e [] name ok begins apart h = absurd (omega (arith, ap length h.letters_are))
put-first l [] ss next rest e (f ∷ es) name ok begins apart h = absurd (omega (arith, ap length h.letters_are))
put-first l (m ∷ ls) ss next rest e (f ∷ es) name ok begins apart h =
    record {
      letters_are = λ i. name i ∷ h.letters_are i;
      sizes_are = append_assoc (decimal e.size) (32 ∷ sizes (f ∷ es)) (10 ∷ []) ∙ ap (λ n. decimal e.size ++ n) (ap (λ r. 32 ∷ r) h.sizes_are ∙ sym apart) ∙ sym begins;
      sound = (ok, h.sound);
    }

-- two lines are those of one list of entries
pub one-lines : (ls ss : List ℕ) (es es' : List Entry) → Lines ls ss es → Lines ls ss es' → es ≡ es'
one-lines [] ss [] [] h h' = refl
one-lines [] ss (e ∷ es) es' h h' = absurd (omega (arith, ap length h.letters_are))
one-lines [] ss [] (e ∷ es') h h' = absurd (omega (arith, ap length h'.letters_are))
one-lines (l ∷ ls) ss es es' h h' =
    let p = first l ls ss es h in
    let q = first l ls ss es' h' in
    let sizes = same-number _ _ _ _ _ _ p.sound.small q.sound.small p.low q.low (sym p.begins ∙ q.begins) in
    let heads = same-entry p.entry q.entry (same-letter _ _ (p.named ∙ sym q.named)) sizes.0 in
    let rests = apart-same ls _ _ _ _ sizes.1 p.apart q.apart in
    let tails = one-lines ls p.rest p.others q.others p.lines (subst (λ r. Lines ls r q.others) (sym rests) q.lines) in
    p.are ∙ (λ i. heads i ∷ tails i) ∙ sym q.are

-- after i letters: the lines are those of the entries seen so far and more, just where the rest is that of those more
pub record Sofar (ls ss : List ℕ) (seen : List Entry) (i : ℕ) (rest : List ℕ) : Type 0 where
  pub onto : (es : List Entry) → Lines (drop i ls) rest es → Lines ls ss (seen ++ es)
  pub from : (es : List Entry) → Lines ls ss es → (more : List Entry) × (es ≡ seen ++ more) × Lines (drop i ls) rest more

pub apart-more : (ls next rest : List ℕ) (i : ℕ) → i < length ls → next ≡ 32 ∷ rest → Apart (drop i ls) next rest
apart-more ls next rest i lt e = subst (λ l. Apart l next rest) (sym (drop_more ls i 0 lt)) e

pub apart-next : (ls next rest : List ℕ) (i : ℕ) → i < length ls → Apart (drop i ls) next rest → next ≡ 32 ∷ rest
apart-next ls next rest i lt h = subst (λ l. Apart l next rest) (drop_more ls i 0 lt) h

pub apart-last : (ls next : List ℕ) (i : ℕ) → length ls ≤ i → Apart (drop i ls) next next
apart-last ls next i le = subst (λ l. Apart l next next) (sym (drop_all i ls le)) refl

module _ {ls ss : List ℕ} {seen : List Entry} {i : ℕ} {rest : List ℕ} (sofar : Sofar ls ss seen i rest) where
  -- the next entry of those that two lines could be of
  pub upcoming : (es : List Entry) → i < length ls → Lines ls ss es → (more : List Entry) × (es ≡ seen ++ more) × First (get_or ls i 0) (drop (i + 1) ls) rest more
  upcoming es lt h =
      let f = sofar.from es h in
      (f.0, f.1, first _ _ _ _ (subst (λ l. Lines l rest f.0) (drop_more ls i 0 lt) f.2))

  pub one-more : (e : Entry) (next after : List ℕ) → i < length ls → letter_of e.letter ≡ get_or ls i 0 → Sound e → rest ≡ decimal e.size ++ next → Apart (drop (i + 1) ls) next after → ((e' : Entry) (t : ℕ) (ts : List ℕ) → Sound e' → letter_of e'.letter ≡ get_or ls i 0 → t < 48 → rest ≡ decimal e'.size ++ t ∷ ts → (e ≡ e') × (next ≡ t ∷ ts)) → Sofar ls ss (seen ++ e ∷ []) (i + 1) after
  one-more e next after lt name ok begins apart every =
      record {
        onto = λ es h. subst (Lines ls ss) (sym (append_assoc seen (e ∷ []) es)) (sofar.onto (e ∷ es) (subst (λ l. Lines l rest (e ∷ es)) (sym (drop_more ls i 0 lt)) (put-first _ _ _ _ _ e es name ok begins apart h)));
        from = λ es h.
            let u = upcoming es lt h in
            let f = u.2 in
            let same = every f.entry f.end f.next f.sound f.named f.low f.begins in
            let rests = apart-same (drop (i + 1) ls) _ _ _ _ same.1 apart f.apart in (
              f.others,
              u.1 ∙ ap (λ l. seen ++ l) f.are ∙ ap (λ x. seen ++ x ∷ f.others) (sym same.0) ∙ sym (append_assoc seen (e ∷ []) f.others),
              subst (λ r. Lines (drop (i + 1) ls) r f.others) (sym rests) f.lines,
            );
      }

  -- the end
  pub all-seen : length ls ≤ i → rest ≡ 10 ∷ [] → Lines ls ss seen
  all-seen le e =
      subst (Lines ls ss) (append-nil seen) (sofar.onto [] (record { letters_are = sym (drop_all i ls le); sizes_are = sym e; sound = tt }))

  pub no-other : length ls ≤ i → (es : List Entry) → Lines ls ss es → rest ≡ 10 ∷ []
  no-other le es h =
      let f = sofar.from es h in
      ended f.0 (subst (λ l. Lines l rest f.0) (drop_all i ls le) f.2)
    where
      ended : (more : List Entry) → Lines [] rest more → rest ≡ 10 ∷ []
      ended [] h = sym h.sizes_are
      ended (e ∷ more) h = absurd (omega (arith, ap length h.letters_are))
