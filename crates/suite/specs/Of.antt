-- The ledger of a plan and a register, by the ghost members of their traits.
use Rattle.plans.specs.declared.plan.ReadPlan as read
use Rattle.plans.specs.declared.plan.ChangePlan as change
use Rattle.registers.specs.declared.register.Register as register
use Rattle.std.specs.Prelude.{ℕ, cond, is_ok, Result}
use Rattle.faults.specs.declared.cause.Cause.{Cause}
use Rattle.ledger.specs.Ledger.{Ledger, founded}

module _ {P R : Type 0} (p : read.Ghosts P) (q : change.Ghosts P) (r : register.Ghosts R) where
  abbrev pub ledger : P → R → Ledger
  ledger x y = record {
    keys = p.keys x;
    doors = p.doors x;
    rows = p.rows x;
    places = q.spare x;
    held = r.held y;
    spare = r.spare y;
    spends = r.spends;
  }

-- what a founding that gave an answer leaves
abbrev pub founded_if : Result ℕ Cause → Ledger → Ledger
founded_if a L = cond (is_ok a) (founded L) L
