use Rattle.std.proofs.Common.{◌/◌, ◌≤◌, length}
use Rattle.difference.specs.Changes.{Sofar}
use Rattle.difference.specs.Places.{Held}
use Rattle.difference.proofs.comparison.Comparison.gather.Given as goal

abbrev pub invariant-loop-u : goal.invariant-loop-u
invariant-loop-u l =
    Held (Sofar l.self.rows.before.now l.self.rows.after.now (length l.self.columns.before.now) l.u 0) l.table 0 l.end × (l.end ≤ length l.table / 2)

abbrev pub invariant-loop-v : goal.invariant-loop-v
invariant-loop-v l =
    Held (Sofar l.self.rows.before.now l.self.rows.after.now (length l.self.columns.before.now) (length l.self.rows.before.now) l.v) l.table 0 l.end
    × (l.end ≤ length l.table / 2)
