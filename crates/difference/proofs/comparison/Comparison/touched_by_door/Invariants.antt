use Rattle.std.proofs.Common.{length}
use Rattle.difference.specs.Changes.{ColumnTouches}
use Rattle.difference.proofs.Asks.{Asking}
use Rattle.difference.proofs.comparison.Comparison.touched_by_door.Given as goal

abbrev pub invariant-loop-d : goal.invariant-loop-d
invariant-loop-d l =
    Asking (λ d. ColumnTouches l.self.columns.before.now l.self.columns.after.now (length l.self.rows.before.now) d l.fn.g) l.fn.g.doors l.v l.d-iterator.left
