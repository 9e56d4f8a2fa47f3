-- the records so far are moved up by one line, and the calls are as they were
use Rattle.std.proofs.Common.{◌≡◌}
use Rattle.registers.specs.Lines.{calls, column}
use Rattle.registers.proofs.Columns.{Carried}
use Rattle.registers.proofs.column.put.Given as goal

abbrev pub invariant-loop-line : goal.invariant-loop-line
invariant-loop-line l = record {
  column : Carried (column l.initial.line-items) (column l.line-items) l.line-index l.fn.«record» l.carried;
  calls : calls l.line-items ≡ calls l.initial.line-items;
}
