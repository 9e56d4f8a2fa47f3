use Rattle.groups.proofs.Minus.{lapsed_new, new_none, lapsed_none}
use Rattle.groups.proofs.theorems.there_and_back.Goals as goal

pub returns : goal.returns
returns c = record { back = lapsed_new; none_new = new_none; none_lapsed = lapsed_none }
