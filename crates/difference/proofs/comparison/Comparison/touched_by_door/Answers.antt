use Rattle.std.proofs.Common.{◌≡◌, ◌-◌, ◌^◌, ◌<◌, length, get_or, arith}
use lib.Bits.{bit_and}
use Rattle.masks.specs.Masks.{Has}
use Rattle.masks.proofs.Ascending.{Peeled, comes, ends}
use Rattle.difference.specs.Changes.{ColumnTouches}
use Rattle.difference.proofs.Asks.{Asking, asking_all, asking_at, asking_next, asking_none, column_changed}
use Rattle.difference.proofs.Families.{column_from_lacks, lacks_from_column}
use Rattle.difference.proofs.Marks.{and_lt, has_lacks, lacks_has, no_has, some_has}
use Rattle.difference.proofs.comparison.Comparison.touched_by_door.Goals as goal
use Rattle.difference.proofs.comparison.Comparison.touched_by_door.Goals.{After-first, In-Some}

begun : (c : After-first)
    → Asking (λ d. ColumnTouches c.args.self.columns.before.now c.args.self.columns.after.now (length c.args.self.rows.before.now) d c.args.g) c.args.g.doors c.args.v (bit_and (bit_and c.args.g.doors c.args.self.changed.doors) c.first.result)
begun c =
    asking_all _ c.args.g.doors c.args.self.changed.doors c.args.v c.first.result (omega arith) c.first.ensures
    (λ d l t. column_changed c.args.self.changed.doors c.args.g c.requires.within c.args.self.marked.doors_lost d t)

pub returns-then-asked-eq0 : goal.returns-then-asked-eq0
returns-then-asked-eq0 c = asking_none (begun (goal.at.returns-then-asked-eq0 c).After-first) c.if-asked-eq0.true

pub loop-d-init : goal.loop-d-init
loop-d-init c =
    let e : c.into_iter-d-iterator.result.left ≡ bit_and (bit_and c.args.g.doors c.args.self.changed.doors) c.first.result = cc in
    asking_at e (begun (goal.at.loop-d-init c).After-first)

peels : (c : In-Some) → Peeled c.loop-d.d-iterator.left c.in-Some.d c.next.new.self.left
peels c = comes c.loop-d.d-iterator c.next.new.self c.in-Some.ensures.steps

door_in : (c : In-Some) → Has c.args.g.doors c.in-Some.d × (c.in-Some.d < c.args.v)
door_in c = c.loop-d.invariant.part _ (peels c).low

pub offset_bounds-self-d : goal.offset_bounds-self-d
offset_bounds-self-d c = omega (arith, (peels (goal.at.offset_bounds-self-d c).In-Some).small)

pub bounds-self-d : goal.bounds-self-d
bounds-self-d c = let l = (door_in (goal.at.bounds-self-d c).In-Some).1 in omega arith

pub returns-then-common-self-ne0 : goal.returns-then-common-self-ne0
returns-then-common-self-ne0 c =
    let d = c.in-Some.d in
    let common = c.shared-common.result in
    let column = get_or c.args.self.columns.after.now d 0 in
    let q = door_in (goal.at.returns-then-common-self-ne0 c).In-Some in
    let a = bit_and common (2 ^ 64 - 1 - column) in
    let f = some_has a (and_lt common (2 ^ 64 - 1 - column) (omega arith)) c.if-common-self-ne0.true in
    (d, q.1, column_from_lacks c.args.self.columns.before.now c.args.self.columns.after.now (length c.args.self.rows.before.now) d common c.args.g c.requires.within c.shared-common.ensures q.0 (lacks_has common column (omega arith) (omega arith) f.0 f.1))

pub loop-d-preserved : goal.loop-d-preserved
loop-d-preserved c =
    let d = c.in-Some.d in
    let common = c.shared-common.result in
    let column = get_or c.args.self.columns.after.now d 0 in
    asking_next c.loop-d.invariant (peels (goal.at.loop-d-preserved c).In-Some)
    (λ t. let l = lacks_from_column c.args.self.columns.before.now c.args.self.columns.after.now (length c.args.self.rows.before.now) d common c.args.g c.requires.within c.shared-common.ensures t in
    no_has (bit_and common (2 ^ 64 - 1 - column)) l.0 c.if-common-self-ne0.false (has_lacks common column (omega arith) (omega arith) l))

pub returns : goal.returns
returns c = asking_none c.loop-d.invariant (ends c.loop-d.d-iterator c.in-None.ensures.steps.0)
