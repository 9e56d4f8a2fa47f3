-- what is left of the batch gives, from the rows as they are now, what all of it gives
use Rattle.std.proofs.Common.{◌≡◌, true, drop}
use Rattle.groups.specs.Lists.{additions_in}
use Rattle.suite.specs.Steps.{all_in_range}
use Rattle.suite.proofs.rows.add_pairs.Given as goal

abbrev pub invariant-loop-change : goal.invariant-loop-change
invariant-loop-change l =
    (all_in_range (drop l.change-index l.changes) ≡ true)
    × (additions_in (drop l.change-index l.changes) l.rows ≡ additions_in l.changes l.initial.rows)
