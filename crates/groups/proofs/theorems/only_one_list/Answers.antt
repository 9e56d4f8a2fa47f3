use Rattle.groups.proofs.Listings.{same_standing}
use Rattle.groups.proofs.Minus.{only_new, only_lapsed}
use Rattle.groups.proofs.Wholes.{only_groups}
use Rattle.groups.proofs.theorems.only_one_list.Goals as goal

pub returns : goal.returns
returns c = record { same = same_standing; groups = only_groups; new = only_new; lapsed = only_lapsed }
