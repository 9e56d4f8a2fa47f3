use Rattle.groups.proofs.Minus.{new_listing, lapsed_listing}
use Rattle.groups.proofs.theorems.lists_the_changes.Goals as goal

pub returns : goal.returns
returns c = record { new = new_listing; lapsed = lapsed_listing }
