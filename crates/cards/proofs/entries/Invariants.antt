-- What the loop of `entries` keeps. Assumes nothing.
use Rattle.std.proofs.Common.{◌≡◌, ◌≤◌, length, vec_items, vec_len, vec_capacity}
use Rattle.cards.proofs.Lines.{Sofar}
use Rattle.cards.proofs.entries.Given as goal

abbrev pub invariant-loop-i : goal.invariant-loop-i
invariant-loop-i l =
    (vec_len l.entries ≡ l.i) × (length l.letters ≤ vec_capacity l.entries) × Sofar l.letters l.sizes (vec_items l.entries) l.i l.rest
