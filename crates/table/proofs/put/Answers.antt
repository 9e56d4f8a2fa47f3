use Rattle.std.proofs.Common.{◌+◌, List, sym, subst, arith}
use Rattle.std.proofs.lemmas.Bool.Decides.{nat_tests}
use Rattle.table.specs.Rows.{Ascends}
use Rattle.table.proofs.Shifts.{put_copied, row_ascends}
use Rattle.table.proofs.SetLaws.{put_entered}
use Rattle.table.proofs.Places.{placed_goes}
use Rattle.table.proofs.put.Goals as goal

pub returns : goal.returns
returns g c =
    let before = g.T.Record.before in
    let order = g.met.T.Record.order in
    let e = put_copied c.args.rows.now _ c.args.count c.args.at c.args.x (omega arith) (omega arith) c.copy_within.ensures.len c.copy_within.ensures.by_index in
    let goes = placed_goes before order.irreflexive order.transitive c.args.rows.now c.args.count c.args.x (omega arith) in
    record {
      test = grind (arith, nat_tests);
      after = e;
      ascends = λ _ a p. subst (λ (rows : List g.row.T.Denot). Ascends before rows (c.args.count + 1)) (sym e) (row_ascends before c.args.rows.now c.args.count c.args.at c.args.x (omega arith) a (goes a c.args.at p));
      entered = λ _ a p. put_entered before order.irreflexive order.transitive c.args.rows.now c.args.count c.args.x (omega arith) _ c.args.at (omega arith) (goes a c.args.at p) e;
    }
