use Rattle.std.proofs.Common.{ℕ, eqb, sym, ap, ◌∙◌, arith}
use Rattle.std.proofs.lemmas.Bool.{le-ltb}
use Rattle.masks.proofs.Bitlaws.{bit_test, bit_above}
use Rattle.masks.proofs.Joins.{has_false}
use Rattle.masks.proofs.has.Goals as goal

pub returns-then-i-lt64 : goal.returns-then-i-lt64
returns-then-i-lt64 c = ap (λ (v : ℕ). eqb v 1) (bit_test c.args.x c.args.i)

pub returns-else-i-lt64 : goal.returns-else-i-lt64
returns-else-i-lt64 c =
    le-ltb c.args.i 64 (omega arith)
    ∙ sym (has_false c.args.x c.args.i (bit_above 64 c.args.x c.args.i (omega arith) (omega arith)))
