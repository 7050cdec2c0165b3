-- What the digits that a text begins with tell of the number there. Assumes nothing.
use Rattle.std.proofs.Common.{◌≡◌, ℕ, ◌+◌, ◌-◌, ◌*◌, ◌^◌, ◌<◌, ◌≤◌, List, ◌∷◌, ◌++◌, length, get_or, take, drop, decimal, sym, refl, ap, ◌∙◌, subst, inl, inr, arith, rules}
use Rattle.std.specs.Str.Parse.{digits_value}
use Rattle.std.specs.Int.{IsInRange}
use Rattle.std.specs.Char.{digit_value}
use Rattle.std.proofs.lemmas.Fmt.{decimal-digits_value, digits_decimal, digits_value-decimal, decimal_nonempty, decimal_digit, first_decimal, length-decimal-le}
use Rattle.std.proofs.lemmas.Int.Digits.{digits_value_more}
use Rattle.std.proofs.lemmas.List.{take_at, drop_at, get_or_at, get_or-take, get_or_append_left, length-append, length-take-le, take-append-drop}
use Rattle.std.proofs.lemmas.Str.Parse.{IsNumeralModel, numerals_by_value, tells_by_index, digits_value_short}
use Rattle.std.proofs.lemmas.Bool.{cases_order}
use Rattle.cards.specs.Digits.{AllDigits, Run, Canonical}

own : IsNumeralModel AllDigits (digits_value 10)
own = numerals_by_value AllDigits tells_by_index

front : (ds : List ℕ) (i : ℕ) → i ≤ length ds → ((k : ℕ) → k < i → IsInRange 48 57 (get_or ds k 0)) → AllDigits (take i ds)
front ds i le all k lt =
    let below : k < i = omega (arith, length-take-le i ds le) in
    subst (IsInRange 48 57) (sym (get_or-take i ds k 0 below)) (all k below)

-- with one digit more, ten times the number and the digit
digit : (c : ℕ) → IsInRange 48 57 c → digit_value c ≡ c - 48
digit c h = search rules

pub value-step : (ds : List ℕ) (i : ℕ) → AllDigits ds → i < length ds → digits_value 10 (take (i + 1) ds) ≡ digits_value 10 (take i ds) * 10 + (get_or ds i 0 - 48)
value-step ds i all lt = digits_value_more 10 ds i lt ∙ ap (λ d. digits_value 10 (take i ds) * 10 + d) (digit _ (all i lt))

pub value-small : (ds : List ℕ) (i : ℕ) → AllDigits ds → i ≤ length ds → length ds ≤ 8 → digits_value 10 (take i ds) < 10 ^ 8
value-small ds i all le few =
    digits_value_short own (take i ds) 8 (front ds i le (λ k lt. all k (omega arith))) (omega (arith, length-take-le i ds le))

canonical-decimal : (n : ℕ) → n ≤ 99999999 → Canonical (decimal n)
canonical-decimal n small =
    record {
      some = decimal_nonempty n (omega arith);
      few = length-decimal-le 8 n (omega arith) (omega arith) (omega arith);
      zero = λ first.
          elim (cases_order n 0) [
            | inl e ↦ ap (λ m. length (decimal m)) e ∙ ap length (decimal_digit 0 (omega arith))
            | inr (inl lt) ↦ omega arith
            | inr (inr gt) ↦ omega (arith, first_decimal n gt (omega arith))
          ];
    }

module _ (text : List ℕ) (k : ℕ) (run : Run text k) where
  pub run-digits : AllDigits (take k text)
  run-digits = front text k run.within run.all

  -- they are the number's
  pub run-number : Canonical (take k text) → (digits_value 10 (take k text) ≤ 99999999) × (text ≡ decimal (digits_value 10 (take k text)) ++ drop k text)
  run-number form =
      let small : digits_value 10 (take k text) < 10 ^ 8 = digits_value_short own (take k text) 8 run-digits form.few in
      let same = decimal-digits_value own (take k text) run-digits form.some form.zero (omega arith) in
      (omega arith, sym (ap (λ ds. ds ++ drop k text) same ∙ take-append-drop k text))

  module _ (n t : ℕ) (ts : List ℕ) (small : n ≤ 99999999) (low : t < 48) (is : text ≡ decimal n ++ t ∷ ts) where
    run-length : k ≡ length (decimal n)
    run-length =
        let size : length text ≡ length (decimal n) + length (t ∷ ts) = ap length is ∙ length-append (decimal n) (t ∷ ts) in
        elim (cases_order k (length (decimal n))) [
          | inl e ↦ e
          | inr (inl lt) ↦
              absurd (run.stops (omega arith) (subst (IsInRange 48 57) (sym (ap (λ l. get_or l k 0) is ∙ get_or_append_left (decimal n) (t ∷ ts) 0 k lt)) (digits_decimal own n (omega arith) k lt)))
          | inr (inr gt) ↦
              let at : get_or text (length (decimal n)) 0 ≡ t = ap (λ l. get_or l (length (decimal n)) 0) is ∙ get_or_at (decimal n) t ts 0 (length (decimal n)) refl in
              absurd (omega (arith, run.all (length (decimal n)) gt))
        ]

    run-front : take k text ≡ decimal n
    run-front = ap (take k) is ∙ take_at (decimal n) (t ∷ ts) k (sym run-length)

    pub run-rest : drop k text ≡ t ∷ ts
    run-rest = ap (drop k) is ∙ drop_at (decimal n) (t ∷ ts) k (sym run-length)

    pub run-value : digits_value 10 (take k text) ≡ n
    run-value = ap (digits_value 10) run-front ∙ digits_value-decimal own n (omega arith)

    pub run-canonical : Canonical (take k text)
    run-canonical = subst Canonical (sym run-front) (canonical-decimal n small)

decimal-run : (n t : ℕ) (ts : List ℕ) → n ≤ 99999999 → t < 48 → Run (decimal n ++ t ∷ ts) (length (decimal n))
decimal-run n t ts small low =
    let size = length-append (decimal n) (t ∷ ts) in
    record {
      within = omega arith;
      all = λ i lt. subst (IsInRange 48 57) (sym (get_or_append_left (decimal n) (t ∷ ts) 0 i lt)) (digits_decimal own n (omega arith) i lt);
      stops = λ _ digit. omega (arith, get_or_at (decimal n) t ts 0 (length (decimal n)) refl);
    }

-- a text begins with one number
pub same-number : (m n t u : ℕ) (ts us : List ℕ) → m ≤ 99999999 → n ≤ 99999999 → t < 48 → u < 48 → decimal m ++ t ∷ ts ≡ decimal n ++ u ∷ us → (m ≡ n) × (t ∷ ts ≡ u ∷ us)
same-number m n t u ts us small small' low low' is =
    let run = decimal-run m t ts small low in (
      sym (run-value _ _ run m t ts small low refl) ∙ run-value _ _ run n u us small' low' is,
      sym (run-rest _ _ run m t ts small low refl) ∙ run-rest _ _ run n u us small' low' is,
    )
