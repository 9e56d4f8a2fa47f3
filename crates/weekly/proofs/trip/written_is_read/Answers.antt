use Rattle.weekly.proofs.Trips.{what_is_written_is_read}
use Rattle.weekly.proofs.trip.written_is_read.Goals as goal

pub returns : goal.returns
returns c = what_is_written_is_read
