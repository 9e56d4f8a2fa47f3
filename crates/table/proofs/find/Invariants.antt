use Rattle.std.proofs.Common.{◌≡◌, ℕ, ◌-◌, ◌<◌, ◌≤◌, true, length, get_or}
use Rattle.table.specs.Rows.{Ascends}
use Rattle.table.proofs.find.Given as goal

-- the rows below `low` are before x, and x is before those from `high` on
abbrev pub invariant-loop-low : goal.invariant-loop-low
invariant-loop-low g l = (l.low ≤ l.high) × (l.high ≤ l.count) × (l.high ≤ length l.rows)
    × (Ascends g.T.Record.before l.rows l.count → (k : ℕ) (d : _) → k < l.low → g.T.Record.before (get_or l.rows k d) l.x ≡ true)
    × (Ascends g.T.Record.before l.rows l.count → (k : ℕ) (d : _) → l.high ≤ k → k < l.count → k < length l.rows → g.T.Record.before l.x (get_or l.rows k d) ≡ true)

abbrev pub decreases-loop-low : goal.decreases-loop-low
decreases-loop-low g l = l.high - l.low
