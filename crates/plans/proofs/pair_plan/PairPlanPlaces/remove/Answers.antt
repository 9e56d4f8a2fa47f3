use Rattle.plans.proofs.Rewrites.{take_away}
use Rattle.plans.proofs.pair_plan.PairPlanPlaces.remove.Goals as goal

pub invariant_of-self : goal.invariant_of-self
invariant_of-self c =
    let w = take_away c.args.self.now c.args._pair c.requires.inside c.args.at c.take_out.new.rows c.take_out.result c.take_out.auto.rows c.requires.place c.take_out.ensures.test c.take_out.ensures.ascends c.take_out.ensures.struck in
    record { within = w.within; few = w.few; ascends = w.ascends; lies = w.lies }

pub returns-clause-rows : goal.returns-clause-rows
returns-clause-rows c =
    let w = take_away c.args.self.now c.args._pair c.requires.inside c.args.at c.take_out.new.rows c.take_out.result c.take_out.auto.rows c.requires.place c.take_out.ensures.test c.take_out.ensures.ascends c.take_out.ensures.struck in
    w.rows_after
