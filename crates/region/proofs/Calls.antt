-- The calls of a region keep the rules of a source, and its own.
use Rattle.std.proofs.Common.{◌≡◌, ℕ, ◌+◌, ◌-◌, ◌%◌, ◌^◌, ◌<◌, ◌≤◌, true, false, List, ◌∷◌, length, get_or, take, drop, set, Some, None, Ok, Err, Result, sym, refl, ap, ◌∙◌, arith, length-drop, length-take}
use Rattle.std.specs.Result.{IsErr}
use Rattle.std.proofs.lemmas.Bool.{both_ways, true≢false}
use Rattle.std.proofs.lemmas.Bool.Decides.{nat_tests}
use Rattle.source.specs.Answers.{Take, Give, Load, Store, sized}
use Rattle.source.specs.Blocks.{Place, Source, within, starts, byte_at}
use Rattle.source.specs.declared.fault.SourceFault.{SourceFault}
use Rattle.source.specs.declared.fault.SourceFault.TheVariants.{Address}
use Rattle.source.specs.declared.request.Outcome.TheVariants.{Granted}
use Rattle.region.specs.declared.Region.{Region}
use Rattle.region.specs.Places.{chain, covers, begins, leaving, Lowest}
use Rattle.region.specs.Regions.{usable, region, cuts_out, Answers, Cuts, within-cuts, lawful-cuts}
use Rattle.region.proofs.Chains.{served}
use Rattle.region.proofs.Windows.{stored-cuts, byte-cuts, leaving-cuts, begins-cuts, places-cuts}

sized-true : (size : ℕ) → 0 < size → size ≤ 67108864 → sized size ≡ true
sized-true size some small = grind (arith, nat_tests)

module _ (r : Region) where
  abbrev bytes : List ℕ
  bytes = r.bytes.items

  abbrev len : ℕ
  len = usable (length bytes)

  abbrev ps : List Place
  ps = chain r.slots.items

  abbrev now : Source
  now = region bytes r.slots.items r.requests r.last

  pub grants : (size at : ℕ) → 0 < size → size ≤ 67108864 → Lowest len ps size (Some at) →
      Take now size (Ok at) (record { blocks = cuts_out bytes (record { base = at; size = size } ∷ ps); requests = (r.requests + 1) % 2 ^ 64; last = Some (record { size = size; outcome = Granted }) })
  grants size at some small low =
      let e = low.1 in
      let s = low.2.0 in
      let l : length (take size (drop (at - 4096) bytes)) ≡ size = length-take size (drop (at - 4096) bytes) ∙ (let d = length-drop (at - 4096) bytes in omega arith) in
      let lawful = lawful-cuts bytes (record { base = at; size = size } ∷ ps) (served ps len size at some r.apart low) in
      record {
        unsized = λ no'. absurd (both_ways _ no' (sized-true size some small));
        asks = λ _. record { bytes = take size (drop (at - 4096) bytes); many = l; sound = lawful.0; apart = lawful.1; after = rw l refl };
      }

  -- the rule of its choice, of the places and of the source that they stand for
  pub chooses : (size : ℕ) (answer : Result ℕ SourceFault) → Answers len ps size answer → Cuts len now size answer
  chooses size answer answers _ = rw (places-cuts bytes ps r.apart) answers

  pub chooses-none : (size : ℕ) (answer : Result ℕ SourceFault) → IsErr answer → Lowest len ps size None → Cuts len now size answer
  chooses-none size (Ok at) err none = absurd (true≢false (sym err))
  chooses-none size (Err f) err none = chooses size (Err f) (λ _. none)

  pub gives : (base : ℕ) → begins ps base ≡ true → Give now base (Ok tt) (record { blocks = cuts_out bytes (leaving ps base); requests = r.requests; last = r.last })
  gives base found =
      let was : starts (cuts_out bytes ps) base ≡ true = sym (begins-cuts bytes ps base) ∙ found in
      record { answer = rw was refl; after = rw (leaving-cuts bytes ps base) refl }

  pub misses : (base : ℕ) → begins ps base ≡ false → Give now base (Err Address) (record { blocks = cuts_out bytes (leaving ps base); requests = r.requests; last = r.last })
  misses base lost =
      let was : starts (cuts_out bytes ps) base ≡ false = sym (begins-cuts bytes ps base) ∙ lost in
      record { answer = rw was refl; after = rw (leaving-cuts bytes ps base) refl }

  module _ (i : ℕ) (on : within (cuts_out bytes ps) (4096 + i) ≡ true) where
    covers-is : covers ps (4096 + i) ≡ true
    covers-is = sym (within-cuts bytes ps (4096 + i) r.apart) ∙ on

    offset : 4096 + i - 4096 ≡ i
    offset = omega arith

    pub loads : Load now (4096 + i) (Ok (get_or bytes i 0))
    loads = let b : byte_at (cuts_out bytes ps) (4096 + i) ≡ get_or bytes i 0 = byte-cuts bytes ps (4096 + i) r.apart covers-is ∙ ap (λ n. get_or bytes n 0) offset in rw (on, b) refl

    pub stores : (byte : ℕ) → Store now (4096 + i) byte (Ok tt) (region (set bytes i byte) r.slots.items r.requests r.last)
    stores byte = record { answer = rw on refl; after = let c = stored-cuts bytes ps (4096 + i) byte r.apart (omega arith) in rw (on, sym c, offset) refl }
