-- Refused, as the vector's span is not live.
use Rattle.ser_vec.proofs.Stores.{failed}
use Rattle.ser_vec.proofs.Vectors.{dead}
use Rattle.ser_vec.proofs.vector.SerVec.len.Goals as goal

pub returns-in_err-live : goal.returns-in_err-live
returns-in_err-live g c = dead c.in_err-live.ensures (failed _ c.from_residual.ensures.1)
