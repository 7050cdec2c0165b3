-- What the run of a card reports: each line shows what the session answered to the call of its entry.
use Rattle.std.specs.Prelude.{◌≡◌, ℕ, suc, ◌-◌, ◌*◌, ◌^◌, min, List, [], ◌∷◌, Result, Ok, Err}
use Rattle.allocator.specs.declared.Allocator.{Ghosts}
use Rattle.cards.specs.declared.Entry.{Entry}
use Rattle.cards.specs.declared.Letter.{Letter}
use Rattle.cards.specs.declared.Letter.TheVariants.{Byte, Half, Word, Double, Quad, Positions, Cues, Pop}
use Rattle.session.specs.Calls.{Call, push, pop_newest, Event, event}
use Rattle.session.specs.Calls as calls
use Rattle.session.specs.Sessions.{Performs}
use Rattle.session.specs.Runs.{Run}
use Rattle.session.specs.declared.fault.Fault.{Fault}
use Rattle.session.specs.declared.session.Session.{Session}
use Rattle.job.specs.declared.listing.Answer.{Answer}
use Rattle.job.specs.declared.listing.Answer.TheVariants.{At, Done}
use Rattle.job.specs.declared.listing.Line.{Line}

abbrev pub call_by : Letter → ℕ → Call
call_by Byte size = push size 1
call_by Half size = push size 2
call_by Word size = push size 4
call_by Double size = push size 8
call_by Quad size = push size 16
call_by Positions size = push (min (size * 4) (2 ^ 64 - 1)) 4
call_by Cues size = push (min (size * 16) (2 ^ 64 - 1)) 8
call_by Pop size = pop_newest

-- the call of an entry
abbrev pub call_of : Entry → Call
call_of entry = call_by entry.letter entry.size

-- what the line shows of an answer; no call of a card loads
abbrev pub Shows : calls.Answer → Result Answer Fault → Type 0
Shows (calls.granted grant at) shown = shown ≡ Ok (At at)
Shows calls.done shown = shown ≡ Ok Done
Shows (calls.refused fault) shown = shown ≡ Err fault
Shows (calls.byte value) shown = ⊥

-- the session performed the call, and its answer is shown
pub record Told {A : Type 0} (allocator : Ghosts A) (s : Session A) (call : Call) (shown : Result Answer Fault) (s' : Session A) : Type 0 where
  pub answer : calls.Answer
  pub shows : Shows answer shown
  pub performs : Performs allocator s call answer s'

-- A line for each entry, numbered from the first number on, shows what its call was answered. The calls with their answers follow on earlier ones,
-- the newest first.
pub data Listed : ℕ → List Entry → List Line → List Event → List Event → Type 0 where
  none : {number : ℕ} {events : List Event} → Listed number [] [] events events
  next : {number : ℕ} {entry : Entry} {entries : List Entry} {line : Line} {lines : List Line} {earlier events : List Event} →
      (answer : calls.Answer) → line.number ≡ number → line.letter ≡ entry.letter → Shows answer line.answer →
      Listed (suc number) entries lines (event (call_of entry) answer ∷ earlier) events →
      Listed number (entry ∷ entries) (line ∷ lines) earlier events

-- the lines are those of a run of the entries' calls
pub record Reported {A : Type 0} (allocator : Ghosts A) (s : Session A) (entries : List Entry) (lines : List Line) (s' : Session A) : Type 0 where
  pub events : List Event
  pub listed : Listed 1 entries lines [] events
  pub run : Run allocator s events s'
