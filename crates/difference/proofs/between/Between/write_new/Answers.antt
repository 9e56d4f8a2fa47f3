use Rattle.std.proofs.Common.{◌≡◌, ◌+◌, ◌-◌, ◌*◌, ◌/◌, ◌≤◌, length, drop, min, arith}
use borrow.Rule.Slice.PartMut.{mid_of}
use Rattle.std.proofs.lemmas.List.{length-take, length-drop}
use Rattle.search.specs.Plans.{plan_doors, plan_rows}
use Rattle.difference.proofs.Ends.{placed_long, placed_none, placed_some, too_many, so_many}
use Rattle.difference.proofs.between.Between.write_new.Goals as goal

pub returns-in_err-end : goal.returns-in_err-end
returns-in_err-end c =
    let b = c.args.self.before.now in
    let a = c.args.self.after.now in
    let T = c.args.table.now in
    let p = c.list_new.new.table in
    let start = c.min-start.result in
    let k = start + 2 * c.min-limit.result - start in
    let places = length (mid_of start k T) in
    let room : start + k ≤ length T = omega arith in
    let wide : places ≡ k = omega (arith, length-take k (drop start T), length-drop start T) in
    let long : length p ≡ k = omega (arith, wide) in
    let is_lim : places / 2 ≡ min c.args.limit ((length T - start) / 2) = omega (arith, wide) in
    rw c.from_residual.ensures
    (too_many (plan_rows b) (plan_rows a) (plan_doors b) T _ c.args.from start c.args.limit (places / 2) (placed_long T p start k (places / 2) room long) (omega arith) is_lim
    (placed_none T p start k (places / 2) room long c.in_err-end.ensures))

pub returns : goal.returns
returns c =
    let b = c.args.self.before.now in
    let a = c.args.self.after.now in
    let T = c.args.table.now in
    let p = c.list_new.new.table in
    let start = c.min-start.result in
    let k = start + 2 * c.min-limit.result - start in
    let places = length (mid_of start k T) in
    let room : start + k ≤ length T = omega arith in
    let wide : places ≡ k = omega (arith, length-take k (drop start T), length-drop start T) in
    let long : length p ≡ k = omega (arith, wide) in
    let is_lim : places / 2 ≡ min c.args.limit ((length T - start) / 2) = omega (arith, wide) in
    so_many (plan_rows b) (plan_rows a) (plan_doors b) T _ c.args.from start c.args.limit (places / 2) (placed_long T p start k (places / 2) room long) (omega arith) is_lim c.in_ok-end.end
    (placed_some T p start k (places / 2) room long c.in_ok-end.end c.in_ok-end.ensures)
