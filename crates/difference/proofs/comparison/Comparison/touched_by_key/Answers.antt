use Rattle.std.proofs.Common.{◌≡◌, ◌<◌, length, arith}
use lib.Bits.{bit_and}
use Rattle.masks.proofs.Bitlaws.{below_has}
use Rattle.masks.proofs.Ascending.{Peeled, comes, ends}
use Rattle.difference.specs.Changes.{KeyTouches}
use Rattle.difference.proofs.Asks.{Asking, asking_all, asking_at, asking_next, asking_none, key_changed}
use Rattle.difference.proofs.Families.{key_from_lacks, lacks_from_key}
use Rattle.difference.proofs.comparison.Comparison.touched_by_key.Goals as goal
use Rattle.difference.proofs.comparison.Comparison.touched_by_key.Goals.{After-first, In-Some}

begun : (c : After-first)
    → Asking (λ k. KeyTouches c.args.self.rows.before.now c.args.self.rows.after.now (length c.args.self.columns.before.now) k c.args.g) c.args.g.keys c.args.u (bit_and (bit_and c.args.g.keys c.args.self.changed.keys) c.first.result)
begun c =
    asking_all _ c.args.g.keys c.args.self.changed.keys c.args.u c.first.result (omega arith) c.first.ensures
    (λ k l t. key_changed c.args.self.changed.keys c.args.g c.requires.group c.args.self.plans.same c.args.self.marked.lost c.args.self.marked.gained k t)

pub returns-then-asked-eq0 : goal.returns-then-asked-eq0
returns-then-asked-eq0 c = asking_none (begun (goal.at.returns-then-asked-eq0 c).After-first) c.if-asked-eq0.true

pub shared-common-requires-clause-within : goal.shared-common-requires-clause-within
shared-common-requires-clause-within c = λ k h. let b = below_has (length c.args.self.rows.after.now) c.args.g.keys k c.requires.group.keys_below h in omega arith

pub loop-k-init : goal.loop-k-init
loop-k-init c =
    let e : c.into_iter-k-iterator.result.left ≡ bit_and (bit_and c.args.g.keys c.args.self.changed.keys) c.first.result = cc in
    asking_at e (begun (goal.at.loop-k-init c).After-first)

peels : (c : In-Some) → Peeled c.loop-k.k-iterator.left c.in-Some.k c.next.new.self.left
peels c = comes c.loop-k.k-iterator c.next.new.self c.in-Some.ensures.steps

key_below : (c : In-Some) → c.in-Some.k < c.args.u
key_below c = (c.loop-k.invariant.part _ (peels c).low).1

pub offset_bounds-self-k : goal.offset_bounds-self-k
offset_bounds-self-k c = omega (arith, (peels (goal.at.offset_bounds-self-k c).In-Some).small)

pub offset_bounds-self-k-in-loop-k : goal.offset_bounds-self-k-in-loop-k
offset_bounds-self-k-in-loop-k c = omega (arith, (peels (goal.at.offset_bounds-self-k-in-loop-k c).In-Some).small)

pub bounds-self-k-in-loop-k : goal.bounds-self-k-in-loop-k
bounds-self-k-in-loop-k c = let l = key_below (goal.at.bounds-self-k-in-loop-k c).In-Some in omega arith

pub bounds-self-k : goal.bounds-self-k
bounds-self-k c = let l = key_below (goal.at.bounds-self-k c).In-Some in omega arith

pub returns-then-key_touches : goal.returns-then-key_touches
returns-then-key_touches c =
    let q = c.loop-k.invariant.part _ (peels (goal.at.returns-then-key_touches c).In-Some).low in
    (c.in-Some.k, q.1, key_from_lacks c.args.self.rows.before.now c.args.self.rows.after.now (length c.args.self.columns.before.now) _ c.shared-common.result c.args.g c.args.self.plans.same c.requires.group c.shared-common.ensures q.0 c.if-key_touches.ensures)

pub loop-k-preserved : goal.loop-k-preserved
loop-k-preserved c =
    asking_next c.loop-k.invariant (peels (goal.at.loop-k-preserved c).In-Some)
    (λ t. c.if-key_touches.ensures (lacks_from_key c.args.self.rows.before.now c.args.self.rows.after.now (length c.args.self.columns.before.now) _ c.shared-common.result c.args.g c.args.self.plans.same c.requires.group c.shared-common.ensures t))

pub returns : goal.returns
returns c = asking_none c.loop-k.invariant (ends c.loop-k.k-iterator c.in-None.ensures.steps.0)
