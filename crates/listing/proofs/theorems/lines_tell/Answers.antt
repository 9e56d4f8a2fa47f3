use Rattle.listing.proofs.Readings.{booked_tells, group_tells, refused_tells}
use Rattle.listing.proofs.theorems.lines_tell.Goals as goal

pub returns : goal.returns
returns c = record { booked = booked_tells; group = group_tells; refused = refused_tells }
