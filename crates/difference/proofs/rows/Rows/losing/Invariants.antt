use Rattle.std.proofs.Common.{length}
use Rattle.difference.specs.Changes.{Losing}
use Rattle.difference.proofs.rows.Rows.losing.Given as goal

abbrev pub invariant-loop-k : goal.invariant-loop-k
invariant-loop-k l = Losing l.self.before.now l.self.after.now l.n (length l.yielded) l.set
