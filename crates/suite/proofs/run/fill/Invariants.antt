-- what is left of the list gives, from the draft as it is now, what all of it gives
use Rattle.std.proofs.Common.{◌≡◌, drop}
use Rattle.pairs.specs.Orders.{change_before}
use Rattle.table.specs.Sets.{all_entered}
use Rattle.batch.specs.Changes.{capacity_of}
use Rattle.batch.specs.Drafts.{changes, memory_of}
use Rattle.ledger.specs.Calls.{puts_fault}
use Rattle.suite.proofs.run.fill.Given as goal

abbrev pub invariant-loop-change : goal.invariant-loop-change
invariant-loop-change l =
    let capacity = capacity_of (memory_of l.initial.draft) in
    (capacity_of (memory_of l.draft) ≡ capacity)
    × (puts_fault capacity (changes l.draft) (drop l.change-index l.list) ≡ puts_fault capacity (changes l.initial.draft) l.list)
    × (all_entered change_before (drop l.change-index l.list) (changes l.draft) ≡ all_entered change_before l.list (changes l.initial.draft))
