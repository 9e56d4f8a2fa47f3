use Rattle.std.proofs.Common.{◌≡◌}
use Rattle.table.specs.Rows.{without_row}
use Rattle.registers.specs.Lines.{calls, column}
use Rattle.registers.proofs.column.take_out.Given as goal

abbrev pub invariant-loop-i : goal.invariant-loop-i
invariant-loop-i l = record {
  column : column l.rows ≡ without_row (column l.initial.rows) l.i l.at;
  calls : calls l.rows ≡ calls l.initial.rows;
}
