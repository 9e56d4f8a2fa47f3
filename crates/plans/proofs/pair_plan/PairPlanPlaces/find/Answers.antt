use Rattle.plans.proofs.Rewrites.{found_stands}
use Rattle.plans.proofs.pair_plan.PairPlanPlaces.find.Goals as goal

pub returns-clause-stands : goal.returns-clause-stands
returns-clause-stands c = let p = c.args.self.now in found_stands p c.args.pair c.find.result (c.find.ensures.value p.ascends)
