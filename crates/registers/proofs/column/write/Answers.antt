use Rattle.std.proofs.Common.{refl}
use Rattle.std.proofs.Math.Seq.{map-set_same}
use Rattle.std.proofs.lemmas.List.{map-set}
use Rattle.registers.specs.Lines.{said, beside}
use Rattle.registers.proofs.Columns.{blank}
use Rattle.registers.proofs.column.write.Goals as goal

pub returns : goal.returns
returns c = record { column = map-set_same beside c.args.rows.now c.args.at _ blank refl; calls = map-set said c.args.rows.now c.args.at _ }
