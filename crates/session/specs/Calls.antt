-- The calls of a session, their answers, and what the ledger is fed of them.
use Rattle.std.specs.Prelude.{ℕ, List, [], ◌∷◌}
use Rattle.session.specs.Ledger.{Entry, adds, removes, notes, nothing, Ledger, empty, fed, new_span}
use Rattle.session.specs.declared.fault.Fault.{Fault}

-- a grant is named by its number
pub data Call : Type 0 where
  push : (size align : ℕ) → Call
  pop : (grant : ℕ) → Call
  pop_newest : Call
  load : (grant offset : ℕ) → Call
  store : (grant offset byte : ℕ) → Call

pub data Answer : Type 0 where
  granted : (grant at : ℕ) → Answer
  done : Answer
  byte : ℕ → Answer
  refused : Fault → Answer

pub record Event : Type 0 where
  pub call : Call
  pub answer : Answer

abbrev pub event : Call → Answer → Event
event call answer = record { call = call; answer = answer }

-- an accepted push adds its span
abbrev pub granted_entry : Call → ℕ → ℕ → Entry
granted_entry (push size align) grant at = adds (new_span grant at size align)
granted_entry (pop named) grant at = nothing
granted_entry pop_newest grant at = nothing
granted_entry (load named offset) grant at = nothing
granted_entry (store named offset value) grant at = nothing

-- an accepted pop removes the newest span, an accepted store notes its byte
abbrev pub done_entry : Call → Entry
done_entry (push size align) = nothing
done_entry (pop grant) = removes
done_entry pop_newest = removes
done_entry (load grant offset) = nothing
done_entry (store grant offset value) = notes (record { grant = grant; offset = offset; byte = value })

-- loads and refusals change nothing
abbrev pub entry : Call → Answer → Entry
entry call (granted grant at) = granted_entry call grant at
entry call done = done_entry call
entry call (byte value) = nothing
entry call (refused fault) = nothing

-- the ledger of some calls with their answers, the newest first
abbrev pub ledger_of : List Event → Ledger
ledger_of [] = empty
ledger_of (last ∷ earlier) = fed (ledger_of earlier) (entry last.call last.answer)
