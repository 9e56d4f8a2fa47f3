use Rattle.groups.proofs.Wholes.{groups_listing}
use Rattle.groups.proofs.theorems.lists_the_groups.Goals as goal

pub returns : goal.returns
returns c = groups_listing
