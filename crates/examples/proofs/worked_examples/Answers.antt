use mathlib.Core.Path.{refl}
use Rattle.masks.specs.Masks.{bit, joined, parted}
use Rattle.groups.specs.Lists.{groups_of, new_groups_of, lapsed_groups_of, carried_out}
use Rattle.examples.proofs.worked_examples.Goals as goal

pub returns : goal.returns
unfolding bit joined parted groups_of new_groups_of lapsed_groups_of carried_out
returns c =
    record {
      three_rows = refl;
      three_groups = refl;
      second_brings = record { comes = refl; goes = refl };
      third_brings = record { comes = refl; goes = refl };
      fourth_brings = record { comes = refl; goes = refl };
      fourth_rows = refl;
      joins_brings = record { comes = refl; goes = refl };
      leaves_brings = record { comes = refl; goes = refl };
      two_rows = refl;
      both_ways = record { comes = refl; goes = refl };
      both_added = record { comes = refl; goes = refl };
      all_but_own = refl;
      all_but_own_count = refl;
    }
