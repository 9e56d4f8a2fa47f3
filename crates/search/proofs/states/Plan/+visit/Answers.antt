use Rattle.std.proofs.Common.{ℕ, ◌<◌, ◌≤◌, [], length, sym, subst, ◌≡◌, ◌∙◌, arith}
use lib.Bits.{bit_or}
use Rattle.search.specs.Parts.{scope_list}
use Rattle.search.proofs.Loops.{moved, starts, turns, turns_none, room_now, ends_answer, ends_table, breaks_answer, breaks_table, full_answer, full_table}
use Rattle.masks.proofs.Ascending.{Peeled, comes, ends}
use Rattle.search.proofs.Steps.{here_list, empty_list, out_list, mark_list, next_node, left_falls}
use Rattle.search.proofs.Written.{Written, written_none, written_one, written_list, written_at, then_room, some_written}
use Rattle.search.proofs.states.Plan.+visit.Goals as goal
use Rattle.search.proofs.states.Plan.+visit.Goals.{After-set-later, Joined-node-ne0, else-node-ne0, then-node-ne0+else-end-table}

-- once the node itself is written
begun : (t : ℕ) (c : Joined-node-ne0 t)
    → Written (scope_list c.args.self.rows.now c.args.self.doors c.args.self.watch.now c.args.node.keys (bit_or c.args.node.out c.args.node.left)) c.args.table.now c.if-node-ne0.table c.args.count c.if-node-ne0.end
begun t c =
    elim c.if-node-ne0.branch [
      | then-node-ne0+else-end-table w ↦
          written_list (sym (here_list c.requires.node w.if-node-ne0.true)) (written_at w.table-is w.end-is (written_one _ _ _ (let l : c.args.count < length c.args.table.now = omega (arith, w.if-end-table.false) in l)))
      | else-node-ne0 w ↦
          written_list (sym (empty_list c.requires.node w.if-node-ne0.false)) (written_at w.table-is w.end-is (written_none _ _ c.requires.room))
    ]

pub returns-then-end-table : goal.returns-then-end-table
returns-then-end-table t c =
    let full : length c.args.table.now ≤ c.args.count = omega arith in
    record {
      answer = full_answer c.requires.node c.if-node-ne0.true c.args.table.now c.args.count full;
      table = full_table c.requires.node c.if-node-ne0.true c.args.table.now c.args.count c.requires.room full;
    }

room_at : (t : ℕ) (c : Joined-node-ne0 t) → c.if-node-ne0.end ≤ length c.if-node-ne0.table
room_at t c = then_room c.requires.room (begun t c) []

pub loop-j-init : goal.loop-j-init
loop-j-init t c =
    starts c.requires.node (let e : c.of-rest.result.left ≡ c.args.node.left = cc in e) c.if-node-ne0.table c.if-node-ne0.end
    (room_at t (goal.at.loop-j-init t c).Joined-node-ne0)

pub offset_bounds-self-j : goal.offset_bounds-self-j
offset_bounds-self-j t c = omega (arith, (comes c.loop-j.rest c.next.new.self c.in-Some.ensures.steps).small)

pub bounds-self-j : goal.bounds-self-j
bounds-self-j t c = (comes c.loop-j.rest c.next.new.self c.in-Some.ensures.steps).small

-- the key that came is the lowest, and the later ones are left
peels : (t : ℕ) (c : After-set-later t) → Peeled c.loop-j.rest.left c.in-Some.j c.set-later.result
peels t c = subst (λ (v : ℕ). Peeled c.loop-j.rest.left c.in-Some.j v) (sym c.set-later.ensures) (comes c.loop-j.rest c.next.new.self c.in-Some.ensures.steps)

pub visit-requires : goal.visit-requires
visit-requires t c =
    let n = c.requires.node in
    let p = c.loop-j.invariant in
    let q = peels t (goal.at.visit-requires t c).After-set-later in
    let room = room_at t (goal.at.visit-requires t c).Joined-node-ne0 in
    let f = left_falls n p.small p.upper q c.close-keys.ensures c.common-marks.ensures c.if-keys-out-eq0.true c.if-marks-ne0.true in
    (omega arith, (room_now n room p, next_node n p.small p.upper q c.close-keys.ensures c.common-marks.ensures c.if-keys-out-eq0.true c.if-marks-ne0.true))

pub returns-in_err-end : goal.returns-in_err-end
returns-in_err-end t c =
    let n = c.requires.node in
    let p = c.loop-j.invariant in
    let q = peels t (goal.at.returns-in_err-end t c).After-set-later in
    let b = begun t (goal.at.returns-in_err-end t c).Joined-node-ne0 in
    let e = c.in_err-end.ensures in
    record {
      answer = c.from_residual.ensures ∙ breaks_answer n c.requires.room b p q c.close-keys.ensures e.answer;
      table = e.table ∙ breaks_table n c.requires.room b p q c.close-keys.ensures e.answer;
    }

pub loop-j-preserved-then-marks-ne0 : goal.loop-j-preserved-then-marks-ne0
loop-j-preserved-then-marks-ne0 t c =
    let q = peels t (goal.at.loop-j-preserved-then-marks-ne0 t c).After-set-later in
    let room = room_at t (goal.at.loop-j-preserved-then-marks-ne0 t c).Joined-node-ne0 in
    let e = c.in_ok-end.ensures in
    moved c.set-later.ensures (turns c.requires.node room c.loop-j.invariant q c.close-keys.ensures (some_written c.loop-j.table c.loop-j.end _ c.in_ok-end.end e.answer e.table))

pub loop-j-preserved-else-marks-ne0 : goal.loop-j-preserved-else-marks-ne0
loop-j-preserved-else-marks-ne0 t c =
    let n = c.requires.node in
    let p = c.loop-j.invariant in
    let q = peels t (goal.at.loop-j-preserved-else-marks-ne0 t c).After-set-later in
    let room = room_at t (goal.at.loop-j-preserved-else-marks-ne0 t c).Joined-node-ne0 in
    moved c.set-later.ensures (turns_none n room p q c.close-keys.ensures (mark_list n p.small p.upper q c.close-keys.ensures c.common-marks.ensures c.if-marks-ne0.false))

pub loop-j-preserved : goal.loop-j-preserved
loop-j-preserved t c =
    let n = c.requires.node in
    let p = c.loop-j.invariant in
    let q = peels t (goal.at.loop-j-preserved t c).After-set-later in
    let room = room_at t (goal.at.loop-j-preserved t c).Joined-node-ne0 in
    moved c.set-later.ensures (turns_none n room p q c.close-keys.ensures (out_list n p.small p.upper q c.close-keys.ensures c.if-keys-out-eq0.false))

pub returns : goal.returns
returns t c =
    let b = begun t (goal.at.returns t c).Joined-node-ne0 in
    record {
      answer = ends_answer c.requires.node c.requires.room b c.loop-j.invariant (ends c.loop-j.rest c.in_default.ensures.steps.0);
      table = ends_table c.requires.node c.requires.room b c.loop-j.invariant (ends c.loop-j.rest c.in_default.ensures.steps.0);
    }
