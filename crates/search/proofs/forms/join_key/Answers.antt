use Rattle.std.proofs.Common.{arith}
use Rattle.std.proofs.lemmas.Nat.{one_shl}
use Rattle.masks.proofs.Ascending.{comes, ends}
use Rattle.search.proofs.Transposes.{key_more, key_all}
use Rattle.search.proofs.forms.join_key.Goals as goal

pub offset_bounds-columns-d : goal.offset_bounds-columns-d
offset_bounds-columns-d c = omega (arith, (comes c.loop-d.d-iterator c.next.new.self c.in-Some.ensures.steps).small)

pub bounds-columns-d : goal.bounds-columns-d
bounds-columns-d c = (comes c.loop-d.d-iterator c.next.new.self c.in-Some.ensures.steps).small

pub bounds-columns-d-in-loop-d : goal.bounds-columns-d-in-loop-d
bounds-columns-d-in-loop-d c = (comes c.loop-d.d-iterator c.next.new.self c.in-Some.ensures.steps).small

pub loop-d-preserved : goal.loop-d-preserved
loop-d-preserved c = key_more c.loop-d.invariant (comes c.loop-d.d-iterator c.next.new.self c.in-Some.ensures.steps) _ (one_shl c.args.k 64 c.requires)

pub returns : goal.returns
returns c = key_all c.loop-d.invariant (ends c.loop-d.d-iterator c.in-None.ensures.steps.0) (omega arith)
