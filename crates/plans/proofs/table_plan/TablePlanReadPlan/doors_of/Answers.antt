use Rattle.std.proofs.Common.{ℕ, get_or, ap, ◌∙◌}
use Rattle.plans.proofs.Cells.{row_front}
use Rattle.plans.proofs.table_plan.TablePlanReadPlan.doors_of.Goals as goal

pub returns : goal.returns
returns c = let p = c.args.self.now in ap (λ (i : ℕ). get_or p.rows i 0) c.from.ensures.0 ∙ row_front p c.args.key.value
