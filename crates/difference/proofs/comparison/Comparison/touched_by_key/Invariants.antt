use Rattle.std.proofs.Common.{length}
use Rattle.difference.specs.Changes.{KeyTouches}
use Rattle.difference.proofs.Asks.{Asking}
use Rattle.difference.proofs.comparison.Comparison.touched_by_key.Given as goal

abbrev pub invariant-loop-k : goal.invariant-loop-k
invariant-loop-k l =
    Asking (λ k. KeyTouches l.self.rows.before.now l.self.rows.after.now (length l.self.columns.before.now) k l.g) l.g.keys l.u l.k-iterator.left
