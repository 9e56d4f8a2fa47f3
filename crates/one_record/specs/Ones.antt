-- What a register of at most one record means, that its records ascend, and that they and its spare places are few.
use Rattle.std.specs.Prelude.{ℕ, ◌+◌, ◌-◌, ◌≤◌, List, [], ◌∷◌, length, Some, None, Option}
use Rattle.std.proofs.Common.{arith}
use Rattle.groups.specs.declared.group.Group.{Group}
use Rattle.groups.specs.Orders.{group_before}
use Rattle.table.specs.Rows.{Ascends}
use Rattle.one_record.specs.declared.make.OneRecord.{OneRecord}

abbrev pub at_most_one : Option Group → List Group
at_most_one None = []
at_most_one (Some x) = x ∷ []

abbrev pub one_held : OneRecord → List Group
one_held s = at_most_one s.held

abbrev pub one_spare : OneRecord → ℕ
one_spare s = 1 - length (one_held s)

short : (o : Option Group) → length (at_most_one o) ≤ 1
short None = omega arith
short (Some x) = omega arith

pub one_ascending : (s : OneRecord) → Ascends group_before (one_held s) (length (one_held s))
one_ascending s k d h = absurd (omega (arith, short s.held))

pub one_few : (s : OneRecord) → length (one_held s) + one_spare s ≤ 65536
one_few s = omega (arith, short s.held)
