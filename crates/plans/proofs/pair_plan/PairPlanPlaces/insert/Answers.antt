use Rattle.plans.proofs.Rewrites.{put_in}
use Rattle.plans.proofs.pair_plan.PairPlanPlaces.insert.Goals as goal

pub invariant_of-self : goal.invariant_of-self
invariant_of-self c =
    let w = put_in c.args.self.now c.args.pair c.requires.inside c.args.at c.put.new.rows c.put.result c.put.auto.rows c.requires.room c.requires.place c.put.ensures.test c.put.ensures.ascends c.put.ensures.entered in
    record { within = w.within; few = w.few; ascends = w.ascends; lies = w.lies }

pub returns-clause-rows : goal.returns-clause-rows
returns-clause-rows c =
    let w = put_in c.args.self.now c.args.pair c.requires.inside c.args.at c.put.new.rows c.put.result c.put.auto.rows c.requires.room c.requires.place c.put.ensures.test c.put.ensures.ascends c.put.ensures.entered in
    w.rows_after
