use Rattle.std.proofs.Common.{refl, arith}
use Rattle.plans.proofs.Cells.{some_pair, take_away, is_there}
use Rattle.plans.proofs.table_plan.TablePlanPlaces.remove.Goals as goal

pub overflow_sub-self : goal.overflow_sub-self
overflow_sub-self c = let s = some_pair c.args.self.now c.args.pair.key c.args.pair.door c.requires.inside (is_there _ c.args._at c.requires.place) in omega arith

pub invariant_of-self : goal.invariant_of-self
invariant_of-self c =
    let w = take_away c.args.self.now c.args.pair.key c.args.pair.door c.requires.inside c.without.result c.without-2.result c.without.ensures c.without-2.ensures (is_there _ c.args._at c.requires.place) in
    record { tall = w.tall; wide = w.wide; agree = w.agree; doors_below = w.doors_below; keys_below = w.keys_below; counts = w.counts; fits = w.fits }

pub returns : goal.returns
returns c =
    let p = c.args.self.now in
    let w = take_away p c.args.pair.key c.args.pair.door c.requires.inside c.without.result c.without-2.result c.without.ensures c.without-2.ensures (is_there _ c.args._at c.requires.place) in
    let s = some_pair p c.args.pair.key c.args.pair.door c.requires.inside (is_there _ c.args._at c.requires.place) in
    let n = p.counts in
    let f = p.fits in
    record { keys = refl; doors = refl; rows = w.rows_after; spare = omega (arith, w.counts) }
