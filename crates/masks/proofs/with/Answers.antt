use Rattle.std.proofs.Common.{ℕ, Some, None, ap, ◌∙◌, arith}
use lib.Bits.{bit_or}
use Rattle.std.proofs.lemmas.Nat.{one_shl}
use Rattle.std.proofs.lemmas.Bool.{cond_below}
use Rattle.masks.specs.Masks.{joined}
use Rattle.masks.proofs.Joins.{or_joined}
use Rattle.masks.proofs.with.Goals as goal

pub returns-then-i-lt64 : goal.returns-then-i-lt64
returns-then-i-lt64 c =
    ap (λ (v : ℕ). Some (bit_or c.args.x v)) (one_shl c.args.i 64 (omega arith))
    ∙ ap (λ (v : ℕ). Some v) (or_joined c.args.x c.args.i)
    ∙ cond_below c.args.i 64 (Some (joined c.args.x c.args.i)) None (omega arith)
