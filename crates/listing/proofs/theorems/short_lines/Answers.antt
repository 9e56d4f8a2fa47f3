use Rattle.listing.proofs.Parts.{booked_short, group_short, refused_short}
use Rattle.listing.proofs.theorems.short_lines.Goals as goal

pub returns : goal.returns
returns c = record { booked = booked_short; group = group_short; refused = refused_short }
