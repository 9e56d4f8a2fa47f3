-- What a sorted register means, that its records ascend, and that they and its spare places are few.
use Rattle.std.specs.Prelude.{ℕ, ◌+◌, ◌-◌, ◌<◌, ◌≤◌, List, length, take}
use Rattle.std.proofs.Common.{arith}
use Rattle.std.proofs.lemmas.List.{get_or-take, length-take}
use Rattle.groups.specs.declared.group.Group.{Group}
use Rattle.groups.specs.Orders.{group_before}
use Rattle.table.specs.Rows.{Ascends}
use Rattle.registers.specs.declared.makes.SortedRegister.{SortedRegister}
use Rattle.registers.specs.Meaning.{capacity}

abbrev pub sorted_held : SortedRegister → List Group
sorted_held s = take s.count s.memory.now

-- a place for each record that the memory has room for and that is not there
abbrev pub sorted_spare : SortedRegister → ℕ
sorted_spare s = capacity (length s.memory.now) - s.count

ascends_front : (xs : List Group) (n : ℕ) → Ascends group_before xs n → Ascends group_before (take n xs) (length (take n xs))
ascends_front xs n a k d l =
    let m : k + 1 < n = omega (arith, length-take n xs) in
    let h : k < n = omega arith in
    rw (get_or-take n xs k d h, get_or-take n xs (k + 1) d m) (a k d m)

pub sorted_ascending : (s : SortedRegister) → Ascends group_before (sorted_held s) (length (sorted_held s))
sorted_ascending s = ascends_front s.memory.now s.count s.ascends

pub sorted_few : (s : SortedRegister) → length (sorted_held s) + sorted_spare s ≤ 65536
sorted_few s = omega (arith, length-take s.count s.memory.now, s.few)
