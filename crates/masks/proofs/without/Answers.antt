use Rattle.std.proofs.Common.{ℕ, ◌-◌, ◌^◌, sym, ap, ◌∙◌, arith}
use lib.Bits.{bit_and}
use Rattle.std.proofs.lemmas.Nat.{one_shl}
use Rattle.masks.proofs.Bitlaws.{bit_above}
use Rattle.masks.proofs.Joins.{and_parted, parted_lacking}
use Rattle.masks.proofs.without.Goals as goal

pub returns-then-i-lt64 : goal.returns-then-i-lt64
returns-then-i-lt64 c =
    ap (λ (v : ℕ). bit_and c.args.x (2 ^ 64 - 1 - v)) (one_shl c.args.i 64 (omega arith))
    ∙ and_parted 64 c.args.x c.args.i (omega arith) (omega arith)

pub returns-else-i-lt64 : goal.returns-else-i-lt64
returns-else-i-lt64 c =
    sym (parted_lacking c.args.x c.args.i (bit_above 64 c.args.x c.args.i (omega arith) (omega arith)))
