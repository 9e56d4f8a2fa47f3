-- what is left of the batch gives, from the plan as it is now, what all of it gives
use Rattle.std.proofs.Common.{◌≡◌, ◌+◌, drop}
use Rattle.groups.specs.Lists.{removals_out}
use Rattle.ledger.specs.Ledger.{removals}
use Rattle.suite.specs.Steps.{Removable}
use Rattle.suite.proofs.steps.withdraw_all.Given as goal

abbrev pub invariant-loop-change : goal.invariant-loop-change
invariant-loop-change g l =
    let p = g.P.ReadPlan in
    let cs = drop l.change-index l.changes in
    Removable (p.keys l.plan) (p.doors l.plan) cs (p.rows l.plan)
    × (p.keys l.plan ≡ p.keys l.initial.plan)
    × (p.doors l.plan ≡ p.doors l.initial.plan)
    × (removals_out cs (p.rows l.plan) ≡ removals_out l.changes (p.rows l.initial.plan))
    × (g.P.ChangePlan.spare l.plan + removals cs ≡ g.P.ChangePlan.spare l.initial.plan + removals l.changes)
