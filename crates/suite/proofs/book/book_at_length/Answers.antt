use Rattle.std.proofs.Common.{◌≡◌, length, replicate, Err, ap, ◌∙◌, arith}
use Rattle.std.proofs.lemmas.List.{length-replicate}
use Rattle.std.proofs.lemmas.Result.{err_from_is_err_and}
use Rattle.faults.specs.Faults.{suite_cause}
use Rattle.ledger.specs.Ledger.{list_capacity, arising, lapsing}
use Rattle.suite.specs.Of.{ledger}
use Rattle.suite.specs.Steps.{lists_answer}
use Rattle.suite.proofs.Judged.{refused_told, lists_refused, lists_of, large_room}
use Rattle.suite.proofs.book.book_at_length.Goals as goal

pub returns-in_err-found : goal.returns-in_err-found
returns-in_err-found g c =
    let L = ledger g.P.ReadPlan g.P.ChangePlan g.R.Register c.args.plan.now c.args.register.now in
    let cs = c.args.changes.now in
    let new = c.args.new.now in
    let lapsed = c.args.lapsed.now in
    let p = err_from_is_err_and c.from_residual.result c.from_residual.ensures.1 in
    let a : c.min.result ≡ list_capacity (length new) = omega (arith, c.min.ensures) in
    let b : c.min-2.result ≡ list_capacity (length lapsed) = omega (arith, c.min-2.ensures) in
    refused_told L cs new lapsed c.from_residual.result p.0 p.1
    (lists_refused L cs (length new) (length lapsed) c.requires.ready.fine (suite_cause p.0)
    (ap (λ z. Err (suite_cause z)) p.2 ∙ c.in_err-found.ensures.answer (large_room c.min.result c.min-2.result (replicate 196608 c.default-table.result) (length-replicate 196608 c.default-table.result) (omega (arith, c.min.ensures)) (omega (arith, c.min-2.ensures)))
    ∙ lists_of L cs c.args.plans.now c.requires.compares c.min.result c.min-2.result
    ∙ ap (λ z. lists_answer z c.min-2.result (arising L cs) (lapsing L cs)) a ∙ ap (λ z. lists_answer (list_capacity (length new)) z (arising L cs) (lapsing L cs)) b))
