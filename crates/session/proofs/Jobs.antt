-- A job is a run, so the law of sessions is the law of jobs.
use Rattle.std.proofs.Common.{◌≡◌, List, ◌++◌, sym, ap, ◌∙◌}
use Rattle.allocator.specs.Memory.{Memory}
use Rattle.allocator.specs.declared.Allocator.{Ghosts}
use Rattle.session.specs.Calls.{Event, ledger_of}
use Rattle.session.specs.Steps.{State, fresh}
use Rattle.session.specs.Sessions.{state}
use Rattle.session.specs.Laws.{Separation}
use Rattle.session.specs.Runs.{Run, opened, visited}
use Rattle.session.specs.Jobs.{Regular, Job, begun, calls, builds, JobLaw}
use Rattle.session.specs.declared.session.Session.{Session}
use Rattle.session.proofs.Laws.{run-after, session_law}

module _ {A : Type 0} (al : Ghosts A) where
  -- a regular session is so after every run
  pub regular-after : {s s' : Session A} {events : List Event} → Regular al s → Run al s events s' → Regular al s'
  regular-after {events = events} regular run =
      record { first = regular.first; fresh = regular.fresh; events = events ++ regular.events; run = run-after al regular.run run }

  pub regular-separation : {s : Session A} (regular : Regular al s) → Separation (ledger_of regular.events) (state al s)
  regular-separation {s} regular = (session_law al regular.first _ regular.fresh regular.events s regular.run).0

  module _ (first : Session A) (m : Memory) (new : state al first ≡ fresh m) where
    pub job-run : {events : List Event} {s : Session A} → Job al first events s → Run al first events s
    job-run begun = opened
    job-run (calls job performs) = visited (job-run job) performs
    job-run (builds job goes) =
        let run = job-run job in
        run-after al run (goes (record { first = first; fresh = new ∙ ap fresh (sym (ap (λ (x : State). x.memory) new)); events = _; run = run }))

  pub job_law : (first : Session A) (m : Memory) → state al first ≡ fresh m → JobLaw al first
  job_law first m new events s job =
      let run = job-run first m new job in
      let (separation, need) = session_law al first m new events s run in
      record { run = run; separation = separation; need = need }
