use Rattle.plans.proofs.Listed.{rows_none}
use Rattle.plans.proofs.makes.PairPlan.new.Goals as goal

pub returns-clause-rows : goal.returns-clause-rows
returns-clause-rows c = rows_none c.args.sizes.keys c.args.sizes.doors
