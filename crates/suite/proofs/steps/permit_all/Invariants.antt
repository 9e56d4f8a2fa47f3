-- what is left of the batch gives, from the plan as it is now, what all of it gives
use Rattle.std.proofs.Common.{◌≡◌, ◌-◌, drop}
use Rattle.groups.specs.Lists.{additions_in}
use Rattle.ledger.specs.Ledger.{additions}
use Rattle.suite.specs.Steps.{Addable}
use Rattle.suite.proofs.steps.permit_all.Given as goal

abbrev pub invariant-loop-change : goal.invariant-loop-change
invariant-loop-change g l =
    let p = g.P.ReadPlan in
    let cs = drop l.change-index l.changes in
    Addable (p.keys l.plan) (p.doors l.plan) cs (p.rows l.plan) (g.P.ChangePlan.spare l.plan)
    × (p.keys l.plan ≡ p.keys l.initial.plan)
    × (p.doors l.plan ≡ p.doors l.initial.plan)
    × (additions_in cs (p.rows l.plan) ≡ additions_in l.changes (p.rows l.initial.plan))
    × (g.P.ChangePlan.spare l.plan - additions cs ≡ g.P.ChangePlan.spare l.initial.plan - additions l.changes)
