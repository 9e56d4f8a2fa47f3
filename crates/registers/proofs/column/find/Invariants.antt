use Rattle.std.proofs.Common.{◌≡◌, ℕ, ◌-◌, ◌<◌, ◌≤◌, true, get_or}
use Rattle.groups.specs.declared.group.Group.{Group}
use Rattle.groups.specs.Orders.{group_before}
use Rattle.registers.specs.Lines.{column}
use Rattle.registers.proofs.column.find.Given as goal

-- the records below `low` are before the one looked for, and it is before those from `high` on
abbrev pub invariant-loop-low : goal.invariant-loop-low
invariant-loop-low l = (l.low ≤ l.high) × (l.high ≤ l.count)
    × ((k : ℕ) (d : Group) → k < l.low → group_before (get_or (column l.rows) k d) l.«record» ≡ true)
    × ((k : ℕ) (d : Group) → l.high ≤ k → k < l.count → group_before l.«record» (get_or (column l.rows) k d) ≡ true)

abbrev pub decreases-loop-low : goal.decreases-loop-low
decreases-loop-low l = l.high - l.low
