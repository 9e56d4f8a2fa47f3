use Rattle.std.proofs.Common.{◌+◌, ◌/◌, length, sym, refl, arith}
use Rattle.difference.proofs.Holds.{held_many}
use Rattle.difference.proofs.Newness.{sofar_new}
use Rattle.difference.proofs.Puts.{met_at, key_none, key_full, key_drawn, key_held}
use Rattle.difference.proofs.comparison.Comparison.put_key.Goals as goal

pub returns-then-gained-lost-eq0 : goal.returns-then-gained-lost-eq0
returns-then-gained-lost-eq0 c =
    ((λ i l. refl), (key_none c.args.self.plans.same c.only-gained.ensures c.only-lost.ensures c.requires.held c.if-gained-lost-eq0.true, omega (arith, c.requires.bound)))

pub returns-in_err-fresh : goal.returns-in_err-fresh
returns-in_err-fresh c =
    rw c.from_residual.ensures
    (key_full c.args.self.plans.same c.only-gained.ensures c.only-lost.ensures c.requires.held (length c.args.table.now / 2) c.family.new.table (omega (arith, c.requires.bound)) (omega arith) (met_at c.args.self.later_doors c.in_err-fresh.ensures))

pub sieve-last-requires-clause-drawn : goal.sieve-last-requires-clause-drawn
sieve-last-requires-clause-drawn c =
    let o = met_at c.args.self.later_doors c.in_ok-fresh.ensures in
    key_drawn c.args.self.plans.same c.only-gained.ensures c.only-lost.ensures c.requires.held c.family.new.table c.in_ok-fresh.fresh o

pub returns-then-last-table : goal.returns-then-last-table
returns-then-last-table c =
    let o = met_at c.args.self.later_doors c.in_ok-fresh.ensures in
    let h = key_held c.args.self.plans.same c.only-gained.ensures c.only-lost.ensures c.requires.held c.family.new.table c.in_ok-fresh.fresh o c.sieve-last.new.table c.sieve-last.result c.sieve-last.ensures (omega arith) in
    (h.0, held_many (length c.args.table.now / 2) h.1 (omega (arith, c.if-last-table.true)) (sofar_new c.args.self.rows.before.now c.args.self.rows.after.now (length c.args.self.columns.before.now) (sym c.args.self.plans.same) (c.args.u + 1) 0))

pub returns : goal.returns
returns c =
    let o = met_at c.args.self.later_doors c.in_ok-fresh.ensures in
    let h = key_held c.args.self.plans.same c.only-gained.ensures c.only-lost.ensures c.requires.held c.family.new.table c.in_ok-fresh.fresh o c.sieve-last.new.table c.sieve-last.result c.sieve-last.ensures (omega arith) in
    (h.0, (h.1, omega (arith, c.if-last-table.false)))
