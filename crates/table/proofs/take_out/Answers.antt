use Rattle.std.proofs.Common.{◌-◌, List, sym, subst, arith}
use Rattle.std.proofs.lemmas.Bool.Decides.{nat_tests}
use Rattle.table.specs.Rows.{Ascends}
use Rattle.table.proofs.Shifts.{out_copied, rest_ascends}
use Rattle.table.proofs.SetLaws.{out_struck}
use Rattle.table.proofs.Places.{placed_found}
use Rattle.table.proofs.take_out.Goals as goal

pub returns : goal.returns
returns g c =
    let before = g.T.Record.before in
    let order = g.met.T.Record.order in
    let e = out_copied c.args.rows.now _ c.args.count c.args.at (omega arith) (omega arith) c.copy_within.ensures.len c.copy_within.ensures.by_index in
    record {
      test = grind (arith, nat_tests);
      after = e;
      ascends = λ _ a. subst (λ (rows : List g.row.T.Denot). Ascends before rows (c.args.count - 1)) (sym e) (rest_ascends before order.transitive c.args.rows.now c.args.count c.args.at (omega arith) (omega arith) a);
      struck = λ x _ a p. out_struck before order.irreflexive order.transitive c.args.rows.now c.args.count x (omega arith) _ c.args.at (placed_found before order.irreflexive order.transitive order.total c.args.rows.now c.args.count x (omega arith) a c.args.at p) a e;
    }
