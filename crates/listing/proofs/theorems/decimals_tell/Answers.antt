use Rattle.std.proofs.Common.{arith}
use Rattle.std.proofs.lemmas.Fmt.{decimal_digit, decimal_is_IsNumeral, first_decimal}
use Rattle.listing.proofs.theorems.decimals_tell.Goals as goal

pub returns : goal.returns
returns c = λ n fits. ((decimal_is_IsNumeral n fits).1, λ some. first_decimal n some fits, decimal_digit 0 (omega arith))
