-- What is read of known bytes: all of them, unless they are too many.
use Rattle.std.proofs.Common.{◌≡◌, ℕ, ◌<◌, min, leb, List, [], ◌++◌, length, take, Option, Some, None, IfSome, MatchOption, Vec, Global, vec_len, vec_items, inl, inr, sym, ap, ◌∙◌, subst, arith}
use Rattle.std.specs.Bool.{then_some}
use Rattle.std.specs.Option.{option_map}
use Rattle.std.proofs.lemmas.Bool.Decides.{leb_tells}
use Rattle.std.proofs.lemmas.List.{take_all, length-take}
use Rattle.replay.proofs.input.read.Goals as goal

abbrev Whole : List ℕ → Option (Vec ℕ Global) → Type 0
Whole bytes read = MatchOption read (32768 < length bytes) (λ text. vec_items text ≡ bytes)

whole : (known : Option (List ℕ)) (start : List ℕ) (text : Vec ℕ Global) (limit len : ℕ) → start ≡ [] → limit ≡ 32769 → vec_len text ≡ len → IfSome (option_map (take limit) known) (λ xs. vec_items text ≡ start ++ xs) → IfSome known (λ bytes. Whole bytes (then_some (leb len 32768) text))
whole None start text limit len none most counted h = tt
whole (Some bytes) start text limit len none most counted h =
    let is : vec_items text ≡ take 32769 bytes = h ∙ (λ i. none i ++ take (most i) bytes) in
    let long : len ≡ min 32769 (length bytes) = omega (arith, text.ok, counted, ap length is, length-take 32769 bytes) in
    elim (leb_tells len 32768) [
      | inl e ↦ subst (λ b. Whole bytes (then_some b text)) (sym e.0) (is ∙ take_all 32769 bytes (omega (arith, e.1)))
      | inr e ↦ subst (λ b. Whole bytes (then_some b text)) (sym e.0) (omega (arith, e.1))
    ]

pub returns-clause-bytes : goal.returns-clause-bytes
returns-clause-bytes g c =
    let told = c.in_ok-len.ensures in
    let made = c.in_ok-text.ensures in
    let P : _ → Type 0 = λ read. IfSome (g.R.Read.remaining c.args.input) (λ bytes. Whole bytes read) in
    let found = whole (g.R.Read.remaining c.take.result.inner) c.in_ok-text.text.items c.read_to_end.new.buf c.take.result.limit c.in_ok-len.len made.items c.take.ensures.limit (omega (arith, told.ok, made.len)) told.bytes in
    subst P (sym c.then_some.ensures) (subst (λ i. IfSome (g.R.Read.remaining i) (λ bytes. Whole bytes (then_some (leb c.in_ok-len.len 32768) c.read_to_end.new.buf))) c.take.ensures.inner found)
