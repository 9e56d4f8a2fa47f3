use Rattle.std.proofs.Common.{◌≡◌, length}
use Rattle.difference.specs.Changes.{Watches}
use Rattle.difference.proofs.rows.Rows.watch.Given as goal

abbrev pub invariant-loop-k : goal.invariant-loop-k
invariant-loop-k l = Watches l.self.before.now l.self.after.now l.gained l.lost l.watch (length l.yielded) × (length l.watch ≡ 64)
