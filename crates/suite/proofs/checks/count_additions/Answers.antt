use Rattle.std.proofs.Common.{◌≡◌, cond, refl, arith, rules}
use Rattle.std.proofs.lemmas.List.Recursion.{is_sum_by}
use Rattle.ledger.specs.Ledger.{additions}
use Rattle.suite.proofs.Turns.{additions_removals}
use Rattle.suite.proofs.checks.count_additions.Goals as goal

pub returns : goal.returns
returns c =
    let cs = c.args.changes.now in
    let counted : c.count.result ≡ additions cs = search (rules, is_sum_by additions (λ x. cond x.added 1 0) refl (λ _ _. refl)) in
    let r = additions_removals cs in
    record { adds = counted; all = omega arith }
