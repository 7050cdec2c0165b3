-- What is printed of a run.
use Rattle.std.specs.Prelude.{ℕ, List, ◌∷◌, ◌++◌, codes, decimal, Result, Ok, Err}
use Rattle.allocator.specs.Stats.{min_capacity}
use Rattle.cards.specs.Letters.{letter_of}
use Rattle.session.specs.Faults.{refusal_text}
use Rattle.session.specs.declared.fault.Fault.{Fault}
use Rattle.job.specs.declared.listing.Answer.{Answer}
use Rattle.job.specs.declared.listing.Answer.TheVariants.{At, Done}
use Rattle.job.specs.declared.listing.Line.{Line}
use Rattle.job.specs.declared.listing.Totals.{Totals}

-- an address, or `ok`
abbrev pub answer_text : Answer → List ℕ
answer_text (At address) = decimal address
answer_text Done = codes "ok"

-- the answer, or `refused` and the number
abbrev pub shown_text : Result Answer Fault → List ℕ
shown_text (Ok answer) = answer_text answer
shown_text (Err fault) = refusal_text fault

-- the number of the entry, its letter, and the answer
abbrev pub line_text : Line → List ℕ
line_text line = decimal line.number ++ (32 ∷ (letter_of line.letter ∷ (32 ∷ shown_text line.answer)))

-- the peaks of bytes and spans, the largest alignment, the need, the growths and the bytes held
abbrev pub totals_text : Totals → List ℕ
totals_text t =
    codes "peak " ++ (decimal t.stats.max_bytes_allocated ++ (32 ∷ (decimal t.stats.max_allocations ++ (32 ∷ (decimal t.stats.max_alignment
    ++ (codes " need " ++ (decimal (min_capacity t.stats) ++ (codes " grown " ++ (decimal t.grown ++ (codes " held " ++ decimal t.held))))))))))
