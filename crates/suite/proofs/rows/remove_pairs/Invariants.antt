-- what is left of the batch gives, from the rows as they are now, what all of it gives
use Rattle.std.proofs.Common.{◌≡◌, drop}
use Rattle.groups.specs.Lists.{removals_out}
use Rattle.suite.proofs.rows.remove_pairs.Given as goal

abbrev pub invariant-loop-change : goal.invariant-loop-change
invariant-loop-change l = removals_out (drop l.change-index l.changes) l.rows ≡ removals_out l.changes l.initial.rows
