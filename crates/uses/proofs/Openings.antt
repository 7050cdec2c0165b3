-- An opening and its refusals, from what an arena's calls promise.
use Rattle.std.proofs.Common.{◌≡◌, ℕ, ◌+◌, ◌≤◌, true, List, [], ◌∷◌, length, Ok, Result, sym, ap, ◌∙◌, subst, inl, inr, arith}
use Rattle.std.proofs.lemmas.Bool.{cases_lt, le-leb}
use Rattle.source.specs.Blocks.{Place}
use Rattle.source.specs.declared.BlockSource.{Ghosts}
use Rattle.source.specs.declared.fault.SourceFault.{SourceFault}
use Rattle.arena.specs.Rings.{newest_size, rising, opened}
use Rattle.arena.specs.Powers.{least_power_of}
use Rattle.arena.specs.Arenas as arenas
use Rattle.arena.specs.Arenas.{blocks_of, unopened, begun, Consulted, Gave, done, next}
use Rattle.arena.specs.Calls.{answered, Opens, opening}
use Rattle.arena.specs.Keeps.{rise}
use Rattle.arena.specs.Views.{idle_of}
use Rattle.arena.specs.declared.arena.Arena.{Arena}
use Rattle.arena.specs.declared.fault.ArenaFault.{ArenaFault}
use Rattle.uses.specs.Openings.{Opened}
use Rattle.uses.specs.Lives.{ArenaLaw}
use Rattle.uses.proofs.Rests.{Rest, rest-opened}
use Rattle.uses.proofs.Lives.{arena_law}

opens-asks : (ps : List Place) (cap : ℕ) → ps ≡ [] → cap ≤ 16777216 → opening ps cap ≡ true
opens-asks ps cap none small = rw none (le-leb cap 16777216 small)

-- an arena that is not opened was made over the source, and an opening of it answered so
pub record Asked {S : Type 0} (from : Ghosts S) (s : S) (cap : ℕ) (r : Result (Unit {0}) ArenaFault) (a a' : Arena S from) : Type 0 where
  pub is : a.source ≡ s
  pub new : idle_of from.state a ≡ unopened (from.state s)
  pub opens : Opens (idle_of from.state a) cap r (idle_of from.state a')
  pub consulted : Consulted from.chooses (opening (blocks_of a.ring) cap) a.source (least_power_of (cap + 16)) (answered r (blocks_of a'.ring)) a'.source

module _ {S : Type 0} (from : Ghosts S) (s : S) (cap : ℕ) (a a' : Arena S from) where
  pub opened-answer : Asked from s cap (Ok tt) a a' → Opened from s cap a'
  opened-answer asked =
      let none : blocks_of a.ring ≡ [] = ap (λ (x : arenas.Arena). x.blocks) asked.new in
      let shut = ap opened none in
      let small : cap ≤ 16777216 = elim (cases_lt 16777216 cap) [
        | inl large ↦ absurd (let e = (asked.opens.large shut large).0 in let z : ◌≡◌ {A = ℕ} 0 1 = cc in omega arith)
        | inr small ↦ small
      ] in
      let b = asked.opens.asks shut small in
      let at : answered {X = Unit {0}} {E = ArenaFault} (Ok tt) (blocks_of a'.ring) ≡ Ok b.at = ap (λ (x : arenas.Arena). answered {X = Unit {0}} {E = ArenaFault} (Ok tt) x.blocks) b.after in
      let chosen = asked.consulted.chosen (opens-asks (blocks_of a.ring) cap none small) in
      record {
        small = small;
        begun = record { at = b.at; bytes = b.bytes; many = b.many; after = b.after ∙ ap (λ (x : arenas.Arena). begun x (record { base = b.at; bytes = b.bytes })) asked.new };
        chosen = subst (λ (x : S). from.chooses x (least_power_of (cap + 16)) (Ok b.at) a'.source) asked.is
            (subst (λ (x : Result ℕ SourceFault). from.chooses a.source (least_power_of (cap + 16)) x a'.source) at chosen);
      }

  pub opened_law : Opened from s cap a' → ArenaLaw from a'
  opened_law is =
      let p : Place = record { base = is.begun.at; size = length is.begun.bytes } in
      let alone : blocks_of a'.ring ≡ p ∷ [] = ap (λ (x : arenas.Arena). x.blocks) is.begun.after in
      let none : a'.growths ≡ 0 = ap (λ (x : arenas.Arena). x.growths) is.begun.after in
      let rest = rest-opened (from.state a'.source).blocks (blocks_of a'.ring) p alone (from.lawful a'.source) a'.kept a'.ring.rises in
      let rises = subst (λ (ps : List Place). rising ps ≡ true) alone a'.ring.rises in
      arena_law from a' (omega (arith, ap newest_size alone, (rise p [] rises).some))
      (subst (λ (n : ℕ). Rest (newest_size (blocks_of a'.ring)) (from.state a'.source).blocks (blocks_of a'.ring) n 0) (sym none) rest)
