use Rattle.std.proofs.Common.{ℕ, get_or, ap, ◌∙◌}
use Rattle.plans.proofs.Cells.{column_front}
use Rattle.plans.proofs.table_plan.TablePlanReadPlan.keys_of.Goals as goal

pub returns : goal.returns
returns c = let p = c.args.self.now in ap (λ (i : ℕ). get_or p.columns i 0) c.from.ensures.0 ∙ column_front p c.args.door.value
