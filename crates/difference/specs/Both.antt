-- What two plans hold.
use Rattle.std.specs.Prelude.{ℕ, List}
use Rattle.search.specs.Plans.{plan_doors, plan_rows}
use Rattle.difference.specs.declared.two.TwoPlans.{TwoPlans}

-- the rows of the plan before the change, one for each key
abbrev pub before_rows : TwoPlans → List ℕ
before_rows t = plan_rows t.before

-- the rows of the plan after the change
abbrev pub after_rows : TwoPlans → List ℕ
after_rows t = plan_rows t.after

-- the number of doors of both
abbrev pub two_doors : TwoPlans → ℕ
two_doors t = plan_doors t.before
