use Rattle.std.proofs.Common.{◌≡◌, ◌-◌, length, take, replicate, Ok, ap, ◌∙◌, arith}
use Rattle.std.proofs.lemmas.List.{length-replicate, length-take-le}
use Rattle.suite.specs.Of.{ledger}
use Rattle.suite.proofs.Compares.{table_rows}
use Rattle.suite.proofs.Founds.{all_fit, founded_is, copied_groups, fitting}
use Rattle.suite.proofs.found.found.Goals as goal

pub returns : goal.returns
returns g c =
    let p = g.P.ReadPlan in
    let r = g.R.Register in
    let x = c.args.plan.now in
    let L = ledger p g.P.ChangePlan r x c.args.register.now in
    let s = p.sound x in
    let few = r.few c.args.register.now in
    let n = c.keys-keys.result in
    let m = c.spare.result - 0 in
    let empty : length L.held ≡ 0 = omega (arith, c.count.ensures, c.if-count-gt0.false) in
    let long : length (take m (replicate 65536 c.default-memory.result)) ≡ L.spare = length-take-le m (replicate 65536 c.default-memory.result) (omega (arith, length-replicate 65536 c.default-memory.result, c.spare.ensures)) ∙ (omega (arith, c.spare.ensures)) in
    let tr = table_rows (p.keys x) n (p.rows x) c.rows_of-rows.result c.rows_of-rows.ensures.long s.few_keys c.keys-keys.ensures c.rows_of-rows.ensures.rows in
    let z = c.in-Some.ensures in
    let T = take m (replicate 65536 c.default-memory.result) in
    let rows = take (n - 0) c.rows_of-rows.result in
    let same = copied_groups L empty T rows c.doors.result long tr c.doors.ensures in
    let fits = fitting L empty T rows c.doors.result long tr c.doors.ensures c.in-Some.count z.0 z.1 in
    let front : c.in-Some.count - 0 ≡ c.in-Some.count = omega arith in
    record {
      answer = ap Ok (z.0 ∙ ap length same) ∙ all_fit L empty fits;
      after =
          founded_is L empty fits (take (c.in-Some.count - 0) c.list_groups.new.table) (r.held c.enter_all.new.register) (r.spare c.enter_all.new.register)
          (ap (λ k. take k c.list_groups.new.table) front ∙ z.2 ∙ same) c.enter_all.ensures.held c.enter_all.ensures.spare;
    }
