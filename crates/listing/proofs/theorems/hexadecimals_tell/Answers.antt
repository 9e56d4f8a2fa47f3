use Rattle.listing.proofs.Hex.{value_hexadecimal, length_hex_digits}
use Rattle.listing.proofs.theorems.hexadecimals_tell.Goals as goal

pub returns : goal.returns
returns c = λ x fits. (value_hexadecimal x fits, length_hex_digits 16 x)
