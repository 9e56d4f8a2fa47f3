-- what is left of the records gives, from the register as it is now, what all of them give from the register at the start
use Rattle.std.proofs.Common.{◌≡◌, drop}
use Rattle.registers.specs.Meaning.{struck_run, struck_left}
use Rattle.registers.proofs.all.strike_all.Given as goal

abbrev pub invariant-loop-group : goal.invariant-loop-group
invariant-loop-group g l =
    let r = g.R.Register in
    (struck_run r.spends (r.held l.register) (r.spare l.register) (drop l.group-index l.records) ≡ struck_run r.spends (r.held l.initial.register) (r.spare l.initial.register) l.records)
    × (struck_left r.spends (r.held l.register) (r.spare l.register) (drop l.group-index l.records) ≡ struck_left r.spends (r.held l.initial.register) (r.spare l.initial.register) l.records)
