-- One entry more is run, and its line is added.
use Rattle.std.proofs.Common.{◌≡◌, ℕ, ◌+◌, ◌<◌, List, [], ◌∷◌, ◌++◌, length, get_or, take, sym, subst, arith, length-take}
use Rattle.std.proofs.lemmas.List.{take_more}
use Rattle.allocator.specs.declared.Allocator.{Ghosts}
use Rattle.cards.specs.declared.Entry.{Entry}
use Rattle.session.specs.Calls.{Event, event}
use Rattle.session.specs.Calls as calls
use Rattle.session.specs.Runs.{visited}
use Rattle.session.specs.declared.session.Session.{Session}
use Rattle.job.specs.Reports.{call_of, Shows, Told, Listed, none, next, Reported}
use Rattle.job.specs.declared.listing.Line.{Line}

listed-push : {n : ℕ} {es : List Entry} {ls : List Line} {earlier events : List Event} → Listed n es ls earlier events →
    (e : Entry) (l : Line) (answer : calls.Answer) → l.number ≡ n + length es → l.letter ≡ e.letter → Shows answer l.answer →
    Listed n (es ++ e ∷ []) (ls ++ l ∷ []) earlier (event (call_of e) answer ∷ events)
listed-push none e l answer number letter shows = next answer (omega arith) letter shows none
listed-push (next first a b c rest) e l answer number letter shows =
    next first a b c (listed-push rest e l answer (omega arith) letter shows)

module _ {A : Type 0} (allocator : Ghosts A) (first s s' : Session A) (entries : List Entry) (lines : List Line) where
  pub reported-more : (i : ℕ) (d : Entry) (line : Line) → i < length entries → Reported allocator first (take i entries) lines s →
      Told allocator s (call_of (get_or entries i d)) line.answer s' → line.number ≡ i + 1 → line.letter ≡ (get_or entries i d).letter →
      Reported allocator first (take (i + 1) entries) (lines ++ line ∷ []) s'
  reported-more i d line short so told number letter =
      let long : length (take i entries) ≡ i = let e = length-take i entries in omega arith in
      let listed = listed-push so.listed (get_or entries i d) line told.answer (omega arith) letter told.shows in
      record {
        events = event (call_of (get_or entries i d)) told.answer ∷ so.events;
        listed = subst (λ es. Listed 1 es (lines ++ line ∷ []) [] (event (call_of (get_or entries i d)) told.answer ∷ so.events)) (sym (take_more entries i d short)) listed;
        run = visited so.run told.performs;
      }
