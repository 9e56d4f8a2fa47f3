use Rattle.std.proofs.Common.{◌^◌, ◌<◌, List, ap, ◌∙◌, arith}
use Rattle.groups.specs.declared.group.Group.{Group}
use Rattle.search.specs.Fills.{fill_answer, filled_from}
use Rattle.search.proofs.Made.{tables_between}
use Rattle.search.proofs.tables.Tables.groups_between.Goals as goal

pub returns : goal.returns
returns c =
    let h : c.args.within < 2 ^ 64 = omega arith in
    let e = tables_between c.args.self.now c.args.base c.args.within h in
    record {
      answer = c.list.ensures.answer ∙ ap (λ (z : List Group). fill_answer z c.args.table.now c.args.count) e;
      table = c.list.ensures.table ∙ ap (λ (z : List Group). filled_from z c.args.table.now c.args.count) e;
    }
