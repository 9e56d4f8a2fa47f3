use Rattle.std.proofs.Common.{arith}
use Rattle.masks.proofs.Ascending.{comes, ends}
use Rattle.search.proofs.Shared.{shares_same, seen_all, seen_only, shares_step, within_step}
use Rattle.search.proofs.nodes.common.Goals as goal

pub offset_bounds-rows-k : goal.offset_bounds-rows-k
offset_bounds-rows-k c = omega (arith, (comes c.loop-k.k-iterator c.next.new.self c.in-Some.ensures.steps).small)

pub bounds-rows-k : goal.bounds-rows-k
bounds-rows-k c = (comes c.loop-k.k-iterator c.next.new.self c.in-Some.ensures.steps).small

pub loop-k-preserved : goal.loop-k-preserved
loop-k-preserved c =
    let p = comes c.loop-k.k-iterator c.next.new.self c.in-Some.ensures.steps in
    (shares_step c.args.set p c.loop-k.invariant.1 c.loop-k.invariant.0, within_step c.args.set p c.loop-k.invariant.1)

pub returns : goal.returns
returns c =
    shares_same c.loop-k.invariant.0 (seen_only c.args.set c.loop-k.k-iterator.left)
    (seen_all c.args.set c.loop-k.k-iterator.left (ends c.loop-k.k-iterator c.in-None.ensures.steps.0))
