-- Refused, as the vector's span is not live.
use Rattle.ser_vec.proofs.Stores.{failed}
use Rattle.ser_vec.proofs.Vectors.{dead}
use Rattle.ser_vec.proofs.vector.SerVec.reserve.Goals as goal

pub returns-in_err-live-clause-step : goal.returns-in_err-live-clause-step
returns-in_err-live-clause-step g c = dead c.in_err-live.ensures (failed _ c.from_residual.ensures.1)
