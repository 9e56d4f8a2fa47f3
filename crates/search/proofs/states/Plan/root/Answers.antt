use Rattle.std.proofs.Common.{ℕ, ◌^◌, ◌<◌, ◌∙◌, subst, arith}
use lib.Bits.{bit_or, or_lt}
use Rattle.masks.specs.Masks.{Has, first_set}
use Rattle.search.specs.Nodes.{Shares}
use Rattle.search.proofs.Starts.{no_doors, meets_out, no_marks, same_lists, start_node, apart_both, bare_list}
use Rattle.search.proofs.states.Plan.root.Goals as goal
use Rattle.search.proofs.states.Plan.root.Goals.{After-common-doors}

shared : (c : After-common-doors) → Shares c.args.self.rows.now (first_set c.args.self.doors) (Has c.args.base) c.common-doors.result
shared c = subst (λ (v : ℕ). Shares c.args.self.rows.now v (Has c.args.base) c.common-doors.result) c.first.ensures c.common-doors.ensures

pub returns-then-doors-eq0 : goal.returns-then-doors-eq0
returns-then-doors-eq0 c =
    no_doors _ _ _ _ _ _ c.common-doors.result c.args.self.long c.args.self.wide c.args.self.reads c.args.self.few (shared (goal.at.returns-then-doors-eq0 c).After-common-doors) c.if-doors-eq0.true

pub returns-then-keys-out-ne0 : goal.returns-then-keys-out-ne0
returns-then-keys-out-ne0 c =
    let small : c.args.base < 2 ^ 64 = omega arith in
    meets_out _ _ _ _ _ _ c.common-doors.result c.args.self.long c.args.self.wide c.args.self.reads c.args.self.few (shared (goal.at.returns-then-keys-out-ne0 c).After-common-doors) _ _ small c.close-keys.ensures c.if-keys-out-ne0.true

pub returns-then-marks-eq0 : goal.returns-then-marks-eq0
returns-then-marks-eq0 c =
    let small : c.args.base < 2 ^ 64 = omega arith in
    no_marks _ _ _ _ _ _ c.common-doors.result c.args.self.long c.args.self.wide c.args.self.reads c.args.self.few (shared (goal.at.returns-then-marks-eq0 c).After-common-doors) _ _ small c.close-keys.ensures _ c.common-marks.ensures c.if-marks-eq0.true

pub returns : goal.returns
returns c =
    let small : c.args.base < 2 ^ 64 = omega arith in
    let off_small : c.args.out < 2 ^ 64 = omega arith in
    let s = shared (goal.at.returns c).After-common-doors in
    let un = c.unmarked.ensures in
    let n = c.common-doors.result in
    let apart = apart_both c.close-keys.result.all c.args.out c.unmarked.result c.close-keys.result.some (omega arith) c.if-keys-out-ne0.false un.part in
    record {
      state = start_node _ _ _ _ _ (bit_or c.args.out c.unmarked.result) n c.args.self.long c.args.self.wide c.args.self.reads c.args.self.few s _ _ small c.close-keys.ensures _ c.common-marks.ensures
          (or_lt 64 c.args.out c.unmarked.result off_small (omega arith)) c.if-doors-eq0.false apart c.if-marks-eq0.false;
      lists =
          same_lists _ _ _ _ _ _ n c.args.self.long c.args.self.wide c.args.self.reads c.args.self.few s _ _ small c.close-keys.ensures
          ∙ bare_list _ _ _ _ _ _ n c.args.self.long c.args.self.wide c.args.self.reads c.args.self.few s _ _ small c.close-keys.ensures _ c.common-marks.ensures _ _ un;
    }
