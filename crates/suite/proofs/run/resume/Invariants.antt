-- what is left of the calls gives, from the ledger as it is now, what all of them give from the ledger at the start
use Rattle.std.proofs.Common.{◌≡◌, ◌++◌, map, take, drop}
use Rattle.ledger.specs.Calls.{after, replies}
use Rattle.suite.specs.Of.{ledger}
use Rattle.suite.specs.Seen.{seen}
use Rattle.suite.proofs.run.resume.Given as goal

abbrev pub invariant-loop-call : goal.invariant-loop-call
invariant-loop-call g l =
    let L = ledger g.P.ReadPlan g.P.ChangePlan g.R.Register l.plan l.register in
    let L₀ = ledger g.P.ReadPlan g.P.ChangePlan g.R.Register l.initial.plan l.initial.register in
    (after L (map seen (drop l.call-index l.calls)) ≡ after L₀ (map seen l.initial.calls))
    × (map seen (take l.call-index l.calls) ++ replies L (map seen (drop l.call-index l.calls)) ≡ replies L₀ (map seen l.initial.calls))
