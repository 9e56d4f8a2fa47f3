use Rattle.std.proofs.Common.{◌+◌, ◌/◌, length, sym, refl, arith}
use Rattle.masks.proofs.Bitlaws.{bit_zero}
use Rattle.difference.proofs.Holds.{held_many}
use Rattle.difference.proofs.Newness.{sofar_new}
use Rattle.difference.proofs.Puts.{met_at, door_none, door_full, door_drawn, door_held}
use Rattle.difference.proofs.Sieves.{turned_mid}
use Rattle.difference.proofs.comparison.Comparison.put_door.Goals as goal

pub returns-then-lost-eq0 : goal.returns-then-lost-eq0
returns-then-lost-eq0 c = ((λ i l. refl), (door_none c.args.self.plans.same c.args.self.plans.before_turned c.args.self.plans.after_turned c.requires.door c.only-lost.ensures c.requires.held c.if-lost-eq0.true, omega (arith, c.requires.bound)))

pub family-requires-clause-apart : goal.family-requires-clause-apart
family-requires-clause-apart c = λ i h _. omega (arith, bit_zero i)

pub returns-in_err-fresh : goal.returns-in_err-fresh
returns-in_err-fresh c =
    rw c.from_residual.ensures
    (door_full c.args.self.plans.same c.args.self.plans.before_turned c.args.self.plans.after_turned c.requires.door c.only-lost.ensures c.requires.held (length c.args.table.now / 2) c.family.new.table (omega (arith, c.requires.bound)) (omega arith) (met_at c.args.self.turned_doors c.in_err-fresh.ensures))

pub sieve-last-requires-clause-drawn : goal.sieve-last-requires-clause-drawn
sieve-last-requires-clause-drawn c =
    let o = met_at c.args.self.turned_doors c.in_ok-fresh.ensures in
    door_drawn c.args.self.plans.same c.args.self.plans.before_turned c.args.self.plans.after_turned c.requires.door c.only-lost.ensures c.requires.held c.family.new.table _ c.in_ok-fresh.fresh o (turned_mid c.family.new.table c.turn.new.groups c.args.end c.in_ok-fresh.fresh (omega arith) (omega arith) c.turn.ensures) (omega arith)

pub returns-then-last-table : goal.returns-then-last-table
returns-then-last-table c =
    let o = met_at c.args.self.turned_doors c.in_ok-fresh.ensures in
    let h = door_held c.args.self.plans.same c.args.self.plans.before_turned c.args.self.plans.after_turned c.requires.door c.only-lost.ensures c.requires.held c.family.new.table _ c.in_ok-fresh.fresh o (turned_mid c.family.new.table c.turn.new.groups c.args.end c.in_ok-fresh.fresh (omega arith) (omega arith) c.turn.ensures) (omega arith) c.sieve-last.new.table c.sieve-last.result c.sieve-last.ensures (omega arith) in
    (h.0, held_many (length c.args.table.now / 2) h.1 (omega (arith, c.if-last-table.true)) (sofar_new c.args.self.rows.before.now c.args.self.rows.after.now (length c.args.self.columns.before.now) (sym c.args.self.plans.same) (length c.args.self.rows.before.now) (c.args.v + 1)))

pub returns : goal.returns
returns c =
    let o = met_at c.args.self.turned_doors c.in_ok-fresh.ensures in
    let h = door_held c.args.self.plans.same c.args.self.plans.before_turned c.args.self.plans.after_turned c.requires.door c.only-lost.ensures c.requires.held c.family.new.table _ c.in_ok-fresh.fresh o (turned_mid c.family.new.table c.turn.new.groups c.args.end c.in_ok-fresh.fresh (omega arith) (omega arith) c.turn.ensures) (omega arith) c.sieve-last.new.table c.sieve-last.result c.sieve-last.ensures (omega arith) in
    (h.0, (h.1, omega (arith, c.if-last-table.false)))
