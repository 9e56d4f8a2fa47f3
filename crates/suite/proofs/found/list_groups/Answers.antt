use Rattle.std.proofs.Common.{take, ap, ◌∙◌}
use Rattle.groups.specs.Lists.{groups_of}
use Rattle.search.specs.Fills.{fill_answer, filled_from}
use Rattle.search.specs.Plans.{plan_doors}
use Rattle.suite.proofs.Founds.{listed}
use Rattle.suite.proofs.found.list_groups.Goals as goal

pub returns : goal.returns
returns c =
    let t = c.new.result in
    let table = c.args.table.now in
    let e = ap (λ rows. groups_of rows (plan_doors t)) c.new.ensures.rows ∙ ap (groups_of (take 64 c.args.rows.now)) c.new.ensures.doors in
    listed c.args.rows.now c.args.doors table c.groups.new.table c.groups.result c.requires.keys c.requires.doors (c.groups.ensures.answer ∙ ap (λ z. fill_answer z table 0) e) (c.groups.ensures.table ∙ ap (λ z. filled_from z table 0) e)
