-- A list written into a table from a place on.
use Rattle.std.specs.Prelude.{ℕ, ◌+◌, cond, List, ◌++◌, length, take, drop, Some, None, Option, nat_le}
use Rattle.groups.specs.declared.group.Group.{Group}

-- where the list ends that is written from `count` on, or None where it does not fit
unfoldable pub fill_answer : List Group → List Group → ℕ → Option ℕ
fill_answer list table count = cond (nat_le (count + length list) (length table)) (Some (count + length list)) None

-- the table with the list from `count` on, cut where the table ends; what stands before and after stays, and all stays where `count` is past the end
unfoldable pub filled_from : List Group → List Group → ℕ → List Group
filled_from list table count =
    cond (nat_le count (length table)) (take (length table) (take count table ++ (list ++ drop (count + length list) table))) table
