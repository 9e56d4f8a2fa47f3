use Rattle.groups.proofs.Sides.{same_keys, same_doors}
use Rattle.groups.proofs.theorems.one_side_decides.Goals as goal

pub returns : goal.returns
returns c = record { keys = λ rows D g h p q e. same_keys g h p q e; doors = λ rows D g h p q e. same_doors g h p q e }
