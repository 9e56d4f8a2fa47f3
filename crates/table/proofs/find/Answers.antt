use Rattle.std.proofs.Common.{◌+◌, ◌-◌, ◌/◌, sym, ◌∙◌, arith}
use Rattle.std.proofs.lemmas.List.{get_or_read}
use Rattle.table.specs.Rows.{FoundAt}
use Rattle.table.proofs.Places.{lower, higher, found_here, goes_here}
use Rattle.table.proofs.find.Goals as goal

pub loop-low-preserved-then-less : goal.loop-low-preserved-then-less
loop-low-preserved-then-less g c = let i = c.loop-low.invariant in
    (omega arith, i.1, i.2, lower g.T.Record.before g.met.T.Record.order.irreflexive g.met.T.Record.order.transitive c.args.rows.now c.args.count c.args.x.now _ c.index-rows-mid.result (omega arith) (omega arith) c.index-rows-mid.is (sym c.if-less.ensures), i.4)

pub loop-low-preserved : goal.loop-low-preserved
loop-low-preserved g c = let i = c.loop-low.invariant in
    (omega arith, omega arith, omega arith, i.3, higher g.T.Record.before g.met.T.Record.order.irreflexive g.met.T.Record.order.transitive c.args.rows.now c.args.count c.args.x.now _ c.index-rows-mid.result (omega arith) (omega arith) c.index-rows-mid.is (sym c.if-less-2.ensures))

pub returns-else-less-2 : goal.returns-else-less-2
returns-else-less-2 g c =
    let i = c.loop-low.invariant in
    let p : FoundAt c.args.rows.now c.args.count c.args.x.now (c.loop-low.low + (c.loop-low.high - c.loop-low.low) / 2) =
    (omega arith, λ d. sym (get_or_read c.args.rows.now _ c.index-rows-mid.result (omega arith) c.index-rows-mid.is d) ∙ g.met.T.Record.order.total c.index-rows-mid.result c.args.x.now (sym c.if-less.ensures) (sym c.if-less-2.ensures)) in
    record { value = found_here g.T.Record.before g.met.T.Record.order.irreflexive g.met.T.Record.order.transitive c.args.rows.now c.args.count c.args.x.now _ p (omega arith); inside = (p, omega arith) }

pub returns : goal.returns
returns g c =
    let i = c.loop-low.invariant in
    record {
      value = λ asc. goes_here g.T.Record.before g.met.T.Record.order.irreflexive g.met.T.Record.order.transitive c.args.rows.now c.args.count c.args.x.now c.loop-low.low (omega arith) (omega arith) (i.3 asc) (λ k d h m n. i.4 asc k d (omega arith) m n);
      inside = (omega arith, omega arith);
    }
