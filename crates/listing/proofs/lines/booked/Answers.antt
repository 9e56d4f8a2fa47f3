use Rattle.std.proofs.Common.{length, ap, arith}
use Rattle.listing.proofs.Parts.{decimal_short}
use Rattle.listing.proofs.lines.booked.Goals as goal

-- the longest line: 2 and 3 bytes, and two numbers of 20 digits
pub end_numbers-requires : goal.end_numbers-requires
end_numbers-requires c = omega (arith, ap length c.begin-line.ensures, decimal_short c.args.new (omega arith), decimal_short c.args.lapsed (omega arith))
