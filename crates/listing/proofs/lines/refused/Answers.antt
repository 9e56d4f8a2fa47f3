use Rattle.std.proofs.Common.{length, ap, arith}
use Rattle.listing.specs.Bytes.{line_bytes}
use Rattle.listing.proofs.Parts.{decimal_short, decimal_byte, field_length, layer_short}
use Rattle.listing.proofs.lines.refused.Goals as goal

pub end_numbers-requires : goal.end_numbers-requires
end_numbers-requires c =
    omega (
      arith,
      ap length c.begin-line.ensures,
      ap length c.layer_word.ensures,
      layer_short c.layer.result,
      field_length (line_bytes c.begin-line.result) c.layer_word.result.now c.add_word.ensures,
      decimal_byte c.from.result (omega arith),
      decimal_short c.unwrap_or.result (omega arith),
    )
