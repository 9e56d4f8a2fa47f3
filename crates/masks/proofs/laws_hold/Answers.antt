use Rattle.masks.proofs.Bitlaws.{bit_lt, below_has, same_below, bit_of_and, bit_of_or}
use Rattle.masks.proofs.Joins as joins
use Rattle.masks.proofs.laws_hold.Goals as goal

pub returns : goal.returns
returns c =
    record {
      two_values = bit_lt;
      within_64 = below_has 64;
      joined_same = joins.joined_same;
      joined_other = joins.joined_other;
      parted_same = joins.parted_same;
      parted_other = joins.parted_other;
      same = same_below 64;
      shared = bit_of_and;
      together = bit_of_or;
      test_says = joins.test_within;
      part_passes = joins.within_passes;
      first_has = joins.first_has;
      first_only = joins.first_only;
    }
