use Rattle.std.proofs.Common.{◌-◌, take, arith}
use Rattle.suite.proofs.Compares.{table_rows, table_keys, faultless}
use Rattle.suite.proofs.Turns.{faultless_in_range}
use Rattle.suite.proofs.compare.compare.Goals as goal

pub both_plans-requires : goal.both_plans-requires
both_plans-requires g c =
    let p = g.P.ReadPlan in
    let x = c.args.plan.now in
    let s = p.sound x in
    let t = c.rows_of-table.result in
    let n = c.keys-keys.result in
    let cs = c.args.changes.now in
    let tr = table_rows (p.keys x) n (p.rows x) t c.rows_of-table.ensures.long s.few_keys c.keys-keys.ensures c.rows_of-table.ensures.rows in
    let tk = table_keys (p.keys x) n (p.rows x) t c.rows_of-table.ensures.long s.few_keys c.keys-keys.ensures c.rows_of-table.ensures.rows in
    let f = faultless (p.keys x) (p.doors x) (g.P.ChangePlan.spare x) n c.doors-doors.result c.spare.result (p.rows x) (take (n - 0) t) cs c.keys-keys.ensures c.doors-doors.ensures c.spare.ensures tr tk c.in_ok-check_changes.ensures in
    record {
      keys = omega (arith, tk, s.few_keys);
      doors = omega (arith, c.doors-doors.ensures, s.few_doors);
      range = faultless_in_range (p.keys x) (p.doors x) (p.rows x) 0 cs s.few_keys s.few_doors f;
    }
