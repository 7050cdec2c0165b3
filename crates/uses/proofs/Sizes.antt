-- The sizes of an arena's blocks are those of its memory.
use Rattle.std.proofs.Common.{◌≡◌, ℕ, suc, true, List, [], ◌∷◌, length, refl, ap, arith}
use Rattle.source.specs.Blocks.{Outstanding, Place}
use Rattle.arena.specs.Rings as rings
use Rattle.arena.specs.Rings.{rising, total, newest}
use Rattle.arena.specs.Meaning.{olders, memory_of, Kept}
use Rattle.arena.specs.Keeps.{rise, usable-length}
use Rattle.session.specs.Growth.{newest_size, held, acquired}

length-olders : (bs : List Outstanding) (ps : List Place) → length (olders bs ps) ≡ length ps
length-olders bs [] = refl
length-olders bs (p ∷ ps) = ap suc (length-olders bs ps)

pub length-memory : (bs : List Outstanding) (ps : List Place) (used : ℕ) → length (memory_of bs ps used) ≡ length ps
length-memory bs [] used = refl
length-memory bs (p ∷ ps) used = ap suc (length-olders bs ps)

pub newest-memory : (bs : List Outstanding) (ps : List Place) (used : ℕ) → Kept bs ps → rising ps ≡ true → newest_size (memory_of bs ps used) ≡ rings.newest_size ps
newest-memory bs [] used k r = refl
newest-memory bs (p ∷ ps) used k r = omega (arith, (rise p ps r).some, usable-length bs p k.0)

held-olders : (bs : List Outstanding) (ps : List Place) → Kept bs ps → rising ps ≡ true → held (olders bs ps) ≡ total ps
held-olders bs [] k r = refl
held-olders bs (p ∷ ps) k r = omega (arith, (rise p ps r).some, usable-length bs p k.0, held-olders bs ps k.2 (rise p ps r).older)

pub held-memory : (bs : List Outstanding) (ps : List Place) (used : ℕ) → Kept bs ps → rising ps ≡ true → held (memory_of bs ps used) ≡ total ps
held-memory bs [] used k r = refl
held-memory bs (p ∷ ps) used k r = omega (arith, (rise p ps r).some, usable-length bs p k.0, held-olders bs ps k.2 (rise p ps r).older)

pub held-newest : (bs : List Outstanding) (ps : List Place) → Kept bs ps → rising ps ≡ true → held (acquired (memory_of bs ps 0)) ≡ total (newest ps)
held-newest bs [] k r = refl
held-newest bs (p ∷ ps) k r = omega (arith, (rise p ps r).some, usable-length bs p k.0)
