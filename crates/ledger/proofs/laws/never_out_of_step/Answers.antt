use Rattle.ledger.proofs.Bookings.{in_step_never_20}
use Rattle.ledger.proofs.laws.never_out_of_step.Goals as goal

pub returns : goal.returns
returns c = in_step_never_20
