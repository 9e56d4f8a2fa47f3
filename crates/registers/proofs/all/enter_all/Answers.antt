use Rattle.std.proofs.Common.{◌<◌, ◌≤◌, length, sym, ◌∙◌, arith}
use Rattle.std.proofs.lemmas.List.{at_drop_all}
use Rattle.groups.specs.declared.group.Group.{Group}
use Rattle.registers.specs.Meaning.{entered_run, entered_left}
use Rattle.registers.proofs.Runs.{enter_turn, enter_turn_left}
use Rattle.registers.proofs.all.enter_all.Goals as goal

pub loop-group-preserved : goal.loop-group-preserved
loop-group-preserved g c =
    let r = g.R.Register in
    let s = c.loop-group.register in
    let t = c.enter.new.self in
    let xs = c.args.records.now in
    let i = c.loop-group.group-index in
    let d : Group = record { keys = 0; doors = 0 } in
    let h : i < length xs = omega arith in
    let e = c.enter.ensures in (
      enter_turn (r.held s) (r.held t) (r.spare s) (r.spare t) xs i d c.enter.result h e.answer e.held e.spare ∙ c.loop-group.invariant.0,
      enter_turn_left (r.held s) (r.held t) (r.spare s) (r.spare t) xs i d c.enter.result h e.answer e.held e.spare ∙ c.loop-group.invariant.1,
    )

pub returns : goal.returns
returns g c =
    let r = g.R.Register in
    let s = c.loop-group.register in
    let xs = c.args.records.now in
    let i = c.loop-group.group-index in
    let h : length xs ≤ i = omega arith in
    record {
      held = sym (at_drop_all (entered_run (r.held s) (r.spare s)) xs i h) ∙ c.loop-group.invariant.0;
      spare = sym (at_drop_all (entered_left (r.held s) (r.spare s)) xs i h) ∙ c.loop-group.invariant.1;
    }
