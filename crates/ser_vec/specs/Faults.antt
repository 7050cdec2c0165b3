-- The number of each refusal.
use Rattle.std.specs.Prelude.{ℕ}
use Rattle.session.specs.Faults as session
use Rattle.ser_vec.specs.declared.fault.Fault.{Fault}
use Rattle.ser_vec.specs.declared.fault.Fault.TheVariants.{Full, Session}

abbrev pub refusal : Fault → ℕ
refusal Full = 8
refusal (Session fault) = session.refusal fault
