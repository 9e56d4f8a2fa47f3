use Rattle.std.proofs.Common.{sym}
use Rattle.std.proofs.lemmas.Result.{err_from_is_err_and}
use Rattle.weekly.proofs.Goods.{judged_parts}
use Rattle.weekly.proofs.judge.judge.Goals as goal

pub returns-in_err-bodies-clause-is : goal.returns-in_err-bodies-clause-is
returns-in_err-bodies-clause-is c =
    let p = err_from_is_err_and c.from_residual-in_err-bodies.result c.from_residual-in_err-bodies.ensures.1 in
    rw (p.1, p.2) (sym (judged_parts c.args.file.now c.of-parts.result _ _ c.in_ok-read_layout.ensures.is c.of-parts.ensures.layout c.of-parts.ensures.parts c.in_err-bodies.ensures))

pub returns-clause-is : goal.returns-clause-is
returns-clause-is c = sym (judged_parts c.args.file.now c.of-parts.result _ _ c.in_ok-read_layout.ensures.is c.of-parts.ensures.layout c.of-parts.ensures.parts c.in_ok-bodies.ensures)
