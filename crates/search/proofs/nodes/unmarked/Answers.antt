use Rattle.std.proofs.Common.{◌≡◌, arith}
use Rattle.std.proofs.lemmas.Nat.{one_shl}
use Rattle.masks.proofs.Ascending.{comes}
use Rattle.search.proofs.Peels.{has_zero}
use Rattle.search.proofs.Shared.{unmarked_more, within_start, within_step}
use Rattle.search.proofs.nodes.unmarked.Goals as goal

pub loop-k-init : goal.loop-k-init
loop-k-init c = (record { part = λ k h. absurd (has_zero k h); bare = λ k b h. absurd (has_zero k h) }, within_start c.args.set (let e : c.into_iter-k-iterator.result.left ≡ c.args.set = cc in e))

pub offset_bounds-watch-k : goal.offset_bounds-watch-k
offset_bounds-watch-k c = omega (arith, (comes c.loop-k.k-iterator c.next.new.self c.in-Some.ensures.steps).small)

pub bounds-watch-k : goal.bounds-watch-k
bounds-watch-k c = (comes c.loop-k.k-iterator c.next.new.self c.in-Some.ensures.steps).small

pub overflow_shl-bare : goal.overflow_shl-bare
overflow_shl-bare c = (comes c.loop-k.k-iterator c.next.new.self c.in-Some.ensures.steps).small

pub loop-k-preserved-then-watch-k-eq0 : goal.loop-k-preserved-then-watch-k-eq0
loop-k-preserved-then-watch-k-eq0 c =
    let p = comes c.loop-k.k-iterator c.next.new.self c.in-Some.ensures.steps in (
      unmarked_more c.in-Some.k _ (one_shl c.in-Some.k 64 p.small) (c.loop-k.invariant.1 c.in-Some.k p.low) c.if-watch-k-eq0.true c.loop-k.invariant.0,
      within_step c.args.set p c.loop-k.invariant.1,
    )

pub loop-k-preserved : goal.loop-k-preserved
loop-k-preserved c = (c.loop-k.invariant.0, within_step c.args.set (comes c.loop-k.k-iterator c.next.new.self c.in-Some.ensures.steps) c.loop-k.invariant.1)
