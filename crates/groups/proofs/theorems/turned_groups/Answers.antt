use Rattle.groups.specs.Plans.{flip}
use Rattle.groups.proofs.Turns.{columns_turned, turned_group, group_turned}
use Rattle.groups.proofs.theorems.turned_groups.Goals as goal

pub returns : goal.returns
returns c =
    record {
      turns = columns_turned;
      to = λ rows cols D g t p. turned_group t g p;
      from = λ rows cols D g t p. group_turned t (flip g) p;
    }
