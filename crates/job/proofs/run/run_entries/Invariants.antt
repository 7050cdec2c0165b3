use Rattle.std.proofs.Common.{◌≡◌, ◌≤◌, length, take, vec_items, vec_len, vec_capacity}
use Rattle.job.specs.Reports.{Reported}
use Rattle.job.proofs.run.run_entries.Given as goal

-- the lines so far report the entries so far, and there is room for the others
abbrev pub invariant-loop-i : goal.invariant-loop-i
invariant-loop-i g l =
    Reported g.A.Allocator l.initial.session (take l.i l.entries) (vec_items l.lines) l.session
    × (vec_len l.lines ≡ l.i) × (length l.entries ≤ vec_capacity l.lines)
