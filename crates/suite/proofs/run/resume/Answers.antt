use Rattle.std.proofs.Common.{◌≤◌, map, length, sym, ◌∙◌, arith}
use Rattle.suite.specs.Of.{ledger}
use Rattle.suite.specs.Seen.{seen}
use Rattle.suite.proofs.Made.{after_all, replies_all, law}
use Rattle.suite.proofs.run.resume.Goals as goal

pub returns : goal.returns
returns g c =
    let i = c.loop-call.call-index in
    let cs = c.loop-call.calls in
    let L₀ = ledger g.P.ReadPlan g.P.ChangePlan g.R.Register c.args.plan.now c.args.register.now in
    let L = ledger g.P.ReadPlan g.P.ChangePlan g.R.Register c.loop-call.plan c.loop-call.register in
    let h : length cs ≤ i = omega arith in
    law L₀ L (map seen c.args.calls.now) (map seen cs) (g.R.Register.ascending c.args.register.now)
    (sym (after_all L cs i h) ∙ c.loop-call.invariant.0) (sym (replies_all L cs i h) ∙ c.loop-call.invariant.1)
