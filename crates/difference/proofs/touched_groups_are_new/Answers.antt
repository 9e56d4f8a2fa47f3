use Rattle.std.proofs.Common.{length}
use Rattle.difference.proofs.Newness.{new_sofar, sofar_new}
use Rattle.difference.proofs.touched_groups_are_new.Goals as goal

pub returns : goal.returns
returns c before after D g same = (new_sofar before after D same g, sofar_new before after D same (length after) D g)
