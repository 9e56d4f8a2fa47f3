use Rattle.groups.proofs.Batches.{carried_length, carried_opens}
use Rattle.groups.proofs.theorems.carries_out.Goals as goal

pub returns : goal.returns
returns c = record { long = carried_length; opens = carried_opens }
