use Rattle.weekly.proofs.Trips.{what_is_read_is_written}
use Rattle.weekly.proofs.trip.read_is_written.Goals as goal

pub returns : goal.returns
returns c = what_is_read_is_written
