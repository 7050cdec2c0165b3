-- The worked figures of an arena hold.
use Rattle.std.proofs.Common.{◌≡◌, ℕ, ◌+◌, ◌*◌, ◌≤◌, max, false, List, [], ◌∷◌, length, refl, ap, ◌∙◌, subst, arith, length-drop}
use Rattle.std.proofs.lemmas.Bool.{lt-leb}
use Rattle.allocator.specs.Memory.{fits}
use Rattle.source.specs.Blocks.{Outstanding, Place, contents}
use Rattle.arena.specs.Powers.{least_power_of, wanted}
use Rattle.arena.specs.Rings.{opened, newest_size, room, total, newest}
use Rattle.arena.specs.Meaning.{memory_of, Kept}
use Rattle.arena.specs.Arenas.{Arena}
use Rattle.arena.proofs.Table.{least_power_of-least}
use Rattle.figures.specs.Figures.{Makes, GrowsTo4096, ArenaFigures}

-- A figure a lemma: of several computed in one answer the check would not say which is wrong.
of-0 : least_power_of 16 ≡ 16
unfolding least_power_of
of-0 = refl

of-1024 : least_power_of 1040 ≡ 2048
unfolding least_power_of
of-1024 = refl

of-2032 : least_power_of 2048 ≡ 2048
unfolding least_power_of
of-2032 = refl

of-2033 : least_power_of 2049 ≡ 4096
unfolding least_power_of
of-2033 = refl

of-push : least_power_of 3017 ≡ 4096
unfolding least_power_of
of-push = refl

makes : (cap size : ℕ) → cap ≤ 16777216 → least_power_of (cap + 16) ≡ size → Makes cap size
makes cap size small is a a' shut opens =
    let b = opens.asks shut small in
    ap (λ (x : Arena). newest_size x.blocks) b.after ∙ (b.many ∙ is)

tight : (bs : List Outstanding) (ps : List Place) (p : Place) → ps ≡ p ∷ [] → p.size ≡ 2048 → Kept bs ps → fits (memory_of bs ps 0) 3000 1 ≡ false
tight bs ps p one size k =
    let kk = (subst (λ (qs : List Place). Kept bs qs) one k).0 in
    rw one (let l = length-drop 16 (contents bs p.base) in lt-leb _ _ (omega arith))

grows : GrowsTo4096
grows a idle handle handle' at shut fresh opens acquired kept pushes =
    let b = opens.asks shut (omega arith) in
    let size : length b.bytes ≡ 2048 = b.many ∙ of-1024 in
    let one : handle.blocks ≡ record { base = b.at; size = length b.bytes } ∷ [] = ap (λ (x : Arena). x.blocks) acquired ∙ ap (λ (x : Arena). newest x.blocks) b.after in
    let none : handle.growths ≡ 0 = ap (λ (x : Arena). x.growths) acquired ∙ (ap (λ (x : Arena). x.growths) b.after ∙ fresh) in
    let unfit = tight handle.source.blocks handle.blocks (record { base = b.at; size = length b.bytes }) one size kept in
    let last : newest_size handle.blocks ≡ 2048 = ap newest_size one ∙ size in
    let want : wanted (newest_size handle.blocks) 3000 1 ≡ 4096 = ap (λ (n : ℕ). max (2 * n) (least_power_of 3017)) last ∙ ap (λ (n : ℕ). max 4096 n) of-push in
    let g = pushes.asks (ap opened one) unfit (omega arith) in
    let more : handle'.blocks ≡ record { base = g.block; size = length g.bytes } ∷ handle.blocks = ap (λ (x : Arena). x.blocks) g.after in
    let many : length g.bytes ≡ 4096 = g.many ∙ want in
    let newest_is = ap newest_size more in
    let room_is = ap room more in
    let sum = ap total more in
    let sum' = ap total one in
    let count = ap (λ (x : Arena). x.growths) g.after in
    (omega arith, omega arith, omega arith, omega arith, ap (λ (ps : List Place). room (newest ps)) more ∙ (omega arith))

pub worked : ArenaFigures
worked =
    record {
      powers = least_power_of-least;
      none = makes 0 16 (omega arith) of-0;
      usual = makes 1024 2048 (omega arith) of-1024;
      exact = makes 2032 2048 (omega arith) of-2032;
      above = makes 2033 4096 (omega arith) of-2033;
      grows = grows;
    }
