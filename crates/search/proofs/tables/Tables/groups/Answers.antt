use Rattle.std.proofs.Common.{List, ap, ◌∙◌}
use Rattle.groups.specs.declared.group.Group.{Group}
use Rattle.search.specs.Fills.{fill_answer, filled_from}
use Rattle.search.proofs.Made.{tables_all}
use Rattle.search.proofs.tables.Tables.groups.Goals as goal

pub returns : goal.returns
returns c =
    let e = tables_all c.args.self.now in
    record {
      answer = c.list.ensures.answer ∙ ap (λ (z : List Group). fill_answer z c.args.table.now c.args.count) e;
      table = c.list.ensures.table ∙ ap (λ (z : List Group). filled_from z c.args.table.now c.args.count) e;
    }
