use Rattle.std.proofs.Common.{◌-◌, ◌/◌, ℕ, length, Some, arith}
use Rattle.std.specs.List.{between}
use Rattle.groups.specs.Plans.{New}
use Rattle.difference.specs.Places.{Listed}
use Rattle.difference.proofs.Ends.{relisted}
use Rattle.difference.proofs.Sorting.{part_held, shuffled_held, listing_from}
use Rattle.difference.proofs.between.Between.list_new.Goals as goal

pub returns : goal.returns
returns c =
    let p = c.compare.result in
    let e = c.compare.ensures in
    let bs = p.rows.before.now in
    let rs = p.rows.after.now in
    let D = length p.columns.before.now in
    let from : ℕ = 0 in
    let end = c.in_ok-end.end in
    let T = c.gather.new.table in
    let T' = c.order.new.table in
    let h = c.in_ok-end.ensures in
    let q = part_held h.1.0 in
    let s = shuffled_held (end - from) (between from end T) (between from end T') q.0 q.1 c.order.ensures.shuffled in
    let l = listing_from (end - from) (between from end T') s.0 s.1 c.order.ensures.rises (λ g n. n.0) in
    let found : Listed (New bs rs D) c.args.table.now T' from (length c.args.table.now / 2) (Some end) = record {
      kept = λ i m. absurd (omega arith);
      result = (h.1.0.low, omega (arith, h.1.0.high), h.1.1, l);
    } in
    relisted (Some end) e.before e.after e.doors found
