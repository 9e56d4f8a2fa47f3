use Rattle.std.proofs.Common.{sym, ◌∙◌, rules, tests}
use Rattle.std.proofs.lemmas.Iterator.{YieldsList-from_slice}
use Rattle.std.proofs.lemmas.Iterator.Search.{position_from_yields_List}
use Rattle.weekly.proofs.Bodies.{bad, bad_is}
use Rattle.weekly.proofs.body.bad_byte.Goals as goal

pub returns-clause-is : goal.returns-clause-is
returns-clause-is c =
    position_from_yields_List bad _ _ _ c.position.ensures.ran (YieldsList-from_slice c.args.note.now (cc)) (λ x b q k. search (rules, tests)) ∙ sym (bad_is c.args.note.now)
