use Rattle.std.proofs.Common.{ℕ, List, ap, ◌∙◌}
use Rattle.groups.specs.declared.group.Group.{Group}
use Rattle.search.specs.Fills.{fill_answer, filled_from}
use Rattle.search.specs.Parts.{scope_list}
use Rattle.search.proofs.Made.{tables_watched}
use Rattle.search.proofs.tables.Tables.groups_watched.Goals as goal

pub returns : goal.returns
returns c =
    let t = c.args.self.now in
    let e = ap (λ (w : List ℕ). scope_list t.rows t.doors w c.args.base 0) c.padded.ensures ∙ tables_watched t c.args.base c.args.watch.now in
    record {
      answer = c.list.ensures.answer ∙ ap (λ (z : List Group). fill_answer z c.args.table.now c.args.count) e;
      table = c.list.ensures.table ∙ ap (λ (z : List Group). filled_from z c.args.table.now c.args.count) e;
    }
