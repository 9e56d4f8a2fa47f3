use Rattle.std.proofs.Common.{List, sym, arith}
use Rattle.groups.specs.declared.group.Group.{Group}
use Rattle.search.specs.Parts.{scope_list}
use Rattle.search.proofs.Fills.{answer_none, filled_past}
use Rattle.search.proofs.Written.{empty_answer, empty_table}
use Rattle.search.proofs.tables.Tables.list.Goals as goal

pub returns-then-count-table : goal.returns-then-count-table
returns-then-count-table c =
    let t = c.args.self.now in
    let a : List Group = scope_list t.rows t.doors c.args.watch.now c.args.base c.args.out in
    record {
      answer = sym (answer_none c.args.table.now c.args.count a (omega arith));
      table = sym (filled_past c.args.table.now c.args.count a c.if-count-table.true);
    }

pub returns-in-None : goal.returns-in-None
returns-in-None c =
    let t = c.args.self.now in
    let a : List Group = scope_list t.rows t.doors c.args.watch.now c.args.base c.args.out in
    record {
      answer = empty_answer c.args.table.now c.args.count a c.in-None.ensures c.if-count-table.false;
      table = empty_table c.args.table.now c.args.count a c.in-None.ensures c.if-count-table.false;
    }
