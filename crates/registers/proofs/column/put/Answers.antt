use Rattle.std.proofs.Common.{◌-◌, ◌+◌, take, drop, refl, ◌∙◌, arith}
use Rattle.std.proofs.lemmas.List.{length-map}
use Rattle.std.proofs.Math.Seq.{map-set_same}
use Rattle.registers.specs.Lines.{said, beside, column}
use Rattle.registers.proofs.Columns.{carried_row, part_column, part_calls, blank}
use Rattle.registers.proofs.column.put.Goals as goal

pub loop-line-preserved : goal.loop-line-preserved
loop-line-preserved c =
    let items = c.loop-line.line-items in
    let i = c.loop-line.line-index in
    let first = take (c.args.count + 1 - c.args.at) (drop c.args.at c.args.rows.now) in
    let n = length-map first beside in
    record {
      column = rw (c.swap.ensures.x_after, c.swap.ensures.y_after) (carried_row (column first) items i c.args.«record» c.loop-line.carried (omega arith) (omega arith) c.loop-line.invariant.column);
      calls = map-set_same said items i _ blank refl ∙ c.loop-line.invariant.calls;
    }

pub returns : goal.returns
returns c =
    let ls = c.args.rows.now in
    let items = c.loop-line.line-items in
    record {
      column = part_column ls items c.args.count c.args.at c.loop-line.line-index c.args.«record» c.loop-line.carried (omega arith) (omega arith) (omega arith) (omega arith) c.loop-line.invariant.column;
      calls = part_calls ls items c.args.count c.args.at (c.args.count + 1 - c.args.at) c.loop-line.invariant.calls;
    }
