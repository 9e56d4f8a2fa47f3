use Rattle.std.proofs.Common.{length, Some, sym, ap, ◌∙◌}
use Rattle.std.proofs.lemmas.Result.{err_from_is_err_and}
use Rattle.faults.specs.Faults.{suite_cause}
use Rattle.batch.specs.Drafts.{closed_changes}
use Rattle.suite.specs.Of.{ledger}
use Rattle.suite.specs.Steps.{plan_fault}
use Rattle.suite.proofs.Judged.{refused_told, plan_refuses}
use Rattle.suite.proofs.book.book.Goals as goal

pub returns-in_err-plans : goal.returns-in_err-plans
returns-in_err-plans g c =
    let L = ledger g.P.ReadPlan g.P.ChangePlan g.R.Register c.args.plan.now c.args.register.now in
    let cs = closed_changes c.args.batch.now in
    let new = c.args.new.now in
    let lapsed = c.args.lapsed.now in
    let p = err_from_is_err_and c.from_residual.result c.from_residual.ensures.1 in
    let b = refused_told L cs new lapsed c.from_residual.result p.0 p.1
    (plan_refuses L cs (length new) (length lapsed) (suite_cause p.0)
    (ap (plan_fault L.keys L.doors L.rows L.places) (sym c.changes-changes.ensures) ∙ c.in_err-plans.ensures ∙ ap (λ z. Some (suite_cause z)) (sym p.2))) in
    record { answer = b.answer; after = b.after; new = b.new_list; lapsed = b.lapsed_list }
