use Rattle.std.proofs.Common.{◌≡◌, arith}
use Rattle.masks.proofs.Ascending.{comes, ends}
use Rattle.search.proofs.Shared.{shares_none, gathers_none, shares_same, gathers_same, seen_none, seen_all, seen_only, shares_step, gathers_step, within_start, within_step}
use Rattle.search.proofs.nodes.close.Goals as goal

pub loop-d-init : goal.loop-d-init
loop-d-init c =
    let e : c.into_iter-d-iterator.result.left ≡ c.args.doors = cc in
    (shares_none _ _ (seen_none c.args.doors e), gathers_none _ (seen_none c.args.doors e), within_start c.args.doors e)

pub offset_bounds-columns-d : goal.offset_bounds-columns-d
offset_bounds-columns-d c = omega (arith, (comes c.loop-d.d-iterator c.next.new.self c.in-Some.ensures.steps).small)

pub bounds-columns-d : goal.bounds-columns-d
bounds-columns-d c = (comes c.loop-d.d-iterator c.next.new.self c.in-Some.ensures.steps).small

pub loop-d-preserved : goal.loop-d-preserved
loop-d-preserved c =
    let p = comes c.loop-d.d-iterator c.next.new.self c.in-Some.ensures.steps in (
      shares_step c.args.doors p c.loop-d.invariant.2 c.loop-d.invariant.0,
      gathers_step c.args.doors p c.loop-d.invariant.2 c.loop-d.invariant.1,
      within_step c.args.doors p c.loop-d.invariant.2,
    )

pub returns : goal.returns
returns c =
    let f = seen_only c.args.doors c.loop-d.d-iterator.left in
    let g = seen_all c.args.doors c.loop-d.d-iterator.left (ends c.loop-d.d-iterator c.in-None.ensures.steps.0) in
    record { whole = shares_same c.loop-d.invariant.0 f g; some = gathers_same c.loop-d.invariant.1 f g }
