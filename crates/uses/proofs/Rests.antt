-- What an arena's rest and its use have of the growth law, by its blocks alone.
use Rattle.std.proofs.Common.{◌≡◌, ℕ, ◌+◌, ◌<◌, true, List, [], ◌∷◌, drop, sym, refl, ap, ◌∙◌, subst, arith}
use Rattle.std.proofs.lemmas.Bool.{eqb-true}
use Rattle.allocator.specs.Memory.{Memory}
use Rattle.source.specs.Blocks.{Source, Outstanding, Place, Lawful}
use Rattle.arena.specs.Rings as rings
use Rattle.arena.specs.Rings.{rising, counted, total, newest, before, opened}
use Rattle.arena.specs.Arenas.{given_back}
use Rattle.arena.specs.Meaning.{usable, memory_of, Kept}
use Rattle.arena.specs.Keeps.{rise, usable-length, memory-lawful}
use Rattle.arena.proofs.Sources.{given-contents}
use Rattle.session.specs.Calls.{Event}
use Rattle.session.specs.Steps.{State, fresh}
use Rattle.session.specs.Growth.{held, acquired, Life, begins, again, Growth}
use Rattle.session.proofs.Lives.{life_law}
use Rattle.uses.specs.Lives.{Bounded}
use Rattle.uses.proofs.Sizes.{held-memory, held-newest}

-- the next use is a life's, and the blocks are bounded until then
pub record Rest (first : ℕ) (bs : List Outstanding) (ps : List Place) (growths most : ℕ) : Type 0 where
  pub next : Life first (acquired (memory_of bs ps 0)) [] (fresh (acquired (memory_of bs ps 0))) growths most
  pub bounds : Bounded first growths most (total ps)

-- a use that came to this memory is a life's
pub record Busy (first : ℕ) (m : Memory) (growths most : ℕ) : Type 0 where
  pub start : Memory
  pub events : List Event
  pub at : State
  pub life : Life first start events at growths most
  pub is : at.memory ≡ m

bounded : (first growths most many : ℕ) (m : Memory) → held m ≡ many → Growth first growths most m → Bounded first growths most many
bounded first growths most many m e g = record { ungrown = λ none. sym e ∙ g.ungrown none; rarely = g.rarely; tightly = λ some. omega (arith, g.tightly some, e) }

pub busy-bounded : (first : ℕ) (bs : List Outstanding) (ps : List Place) (used growths most : ℕ) → Kept bs ps → rising ps ≡ true → Busy first (memory_of bs ps used) growths most → Bounded first growths most (total ps)
busy-bounded first bs ps used growths most k r b =
    bounded first growths most (total ps) b.at.memory (ap held b.is ∙ held-memory bs ps used k r) (life_law first b.start b.events b.at growths most b.life).1

acquired-any : (bs : List Outstanding) (ps : List Place) (used : ℕ) → acquired (memory_of bs ps used) ≡ acquired (memory_of bs ps 0)
acquired-any bs [] used = refl
acquired-any bs (p ∷ ps) used = refl

acquired-twice : (m : Memory) → acquired (acquired m) ≡ acquired m
acquired-twice [] = refl
acquired-twice (b ∷ older) = refl

-- the newest block alone, once the others were given back
shrunk-memory : (s : Source) (ps : List Place) → Kept s.blocks ps → memory_of (given_back s (before ps)).blocks (newest ps) 0 ≡ acquired (memory_of s.blocks ps 0)
shrunk-memory s [] k = refl
shrunk-memory s (p ∷ ps) k = ap (λ (xs : List ℕ). record { base = p.base + 16; mark = 0; bytes = drop 16 xs } ∷ []) (given-contents s ps p.base k.1)

pub rest-opened : (bs : List Outstanding) (ps : List Place) (p : Place) → ps ≡ p ∷ [] → Lawful bs → Kept bs ps → rising ps ≡ true → Rest (rings.newest_size ps) bs ps 0 0
rest-opened bs ps p e lawful kept rises =
    subst (λ (qs : List Place). Kept bs qs → rising qs ≡ true → Rest (rings.newest_size qs) bs qs 0 0) (sym e) alone kept rises
  where
    alone : Kept bs (p ∷ []) → rising (p ∷ []) ≡ true → Rest p.size bs (p ∷ []) 0 0
    alone k r =
        record {
          next = begins (usable bs p 0) (omega (arith, (rise p [] r).some, usable-length bs p k.0)) (memory-lawful bs lawful (p ∷ []) 0 k r (omega arith));
          bounds = record { ungrown = λ none. omega arith; rarely = λ some. absurd (omega arith); tightly = λ some. absurd (omega arith) };
        }

pub rest-shrunk : (first : ℕ) (s : Source) (ps : List Place) (growths most : ℕ) → Kept s.blocks ps → rising ps ≡ true → Rest first s.blocks ps growths most →
    Rest first (given_back s (before ps)).blocks (newest ps) growths most
rest-shrunk first s ps growths most k r rest =
    let e : acquired (memory_of (given_back s (before ps)).blocks (newest ps) 0) ≡ acquired (memory_of s.blocks ps 0) = ap acquired (shrunk-memory s ps k) ∙ acquired-twice (memory_of s.blocks ps 0) in
    record {
      next = subst (λ (m : Memory). Life first m [] (fresh m) growths most) (sym e) rest.next;
      bounds = bounded first growths most (total (newest ps)) (acquired (memory_of s.blocks ps 0)) (held-newest s.blocks ps k r) (life_law first _ [] _ growths most rest.next).1;
    }

pub rest-acquired : (first : ℕ) (s : Source) (ps : List Place) (growths most : ℕ) → Kept s.blocks ps → Rest first s.blocks ps growths most →
    Life first (memory_of (given_back s (before ps)).blocks (newest ps) 0) [] (fresh (memory_of (given_back s (before ps)).blocks (newest ps) 0)) growths most
rest-acquired first s ps growths most k rest = subst (λ (m : Memory). Life first m [] (fresh m) growths most) (sym (shrunk-memory s ps k)) rest.next

pub busy-released : (first : ℕ) (bs : List Outstanding) (ps : List Place) (used growths most : ℕ) → Kept bs ps → rising ps ≡ true → Busy first (memory_of bs ps used) growths most → Rest first bs ps growths most
busy-released first bs ps used growths most k r b =
    record {
      next = subst (λ (m : Memory). Life first m [] (fresh m) growths most) (ap acquired b.is ∙ acquired-any bs ps used) (again b.life);
      bounds = busy-bounded first bs ps used growths most k r b;
    }

-- a bounded arena has a block
pub rest-some : (first growths most : ℕ) (ps : List Place) → 0 < first → counted growths ps ≡ true → Bounded first growths most (total ps) → opened ps ≡ true
rest-some first growths most [] some count b = absurd (omega (arith, b.ungrown (eqb-true growths 0 count)))
rest-some first growths most (p ∷ ps) some count b = refl
