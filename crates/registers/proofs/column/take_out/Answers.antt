use Rattle.std.proofs.Common.{◌-◌, refl, ◌∙◌, arith}
use Rattle.std.proofs.Math.Seq.{map-set_same}
use Rattle.std.proofs.lemmas.List.{length-map}
use Rattle.registers.specs.Lines.{said, beside, column}
use Rattle.registers.proofs.Columns.{moved_row, blank}
use Rattle.registers.proofs.column.take_out.Goals as goal

pub loop-i-preserved : goal.loop-i-preserved
loop-i-preserved c =
    let ls = c.loop-i.rows in
    let i = c.loop-i.i in
    let n = length-map c.args.rows.now beside in
    let r = c.requires.1 in
    record {
      column = moved_row (column c.args.rows.now) ls i c.args.at (omega arith) (omega arith) (omega arith) c.loop-i.invariant.column;
      calls = map-set_same said ls (i - 1) _ blank refl ∙ c.loop-i.invariant.calls;
    }
