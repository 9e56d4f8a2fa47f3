use Rattle.std.proofs.Common.{sym}
use Rattle.search.proofs.Made.{agreeing, columns_are, rows_long, tables_turned}
use Rattle.search.proofs.Transposes.{columns_past, transposed_back}
use Rattle.search.proofs.tables.Tables.turned.Goals as goal

pub invariant_of-result : goal.invariant_of-result
invariant_of-result c =
    let p = c.args.self.now in
    let t = tables_turned p in
    let back = transposed_back p.rows_end t p.few_keys p.few_doors c.cut.ensures in
    record {
      few_keys = p.few_doors;
      few_doors = p.few_keys;
      tall = p.wide;
      wide = c.cut.ensures.long;
      rows_end = p.columns_end;
      columns_end = columns_past p.columns_end back;
      agree = agreeing p.columns_end back;
    }

pub returns : goal.returns
returns c = record { rows = columns_are c.args.self.now; doors = sym (rows_long c.args.self.now) }
