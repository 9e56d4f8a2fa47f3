use Rattle.std.proofs.Common.{◌≡◌, ◌*◌, ◌%◌, ◌^◌, arith}
use Rattle.std.proofs.lemmas.Nat.{one_shl}
use Rattle.search.specs.Plans.{plan_doors, plan_rows}
use Rattle.difference.proofs.Families.{family_listing, outcome_from}
use Rattle.difference.proofs.rows.Rows.family.Goals as goal

pub returns : goal.returns
returns c =
    let u = c.args.u in
    let e : 1 * 2 ^ u % 2 ^ 64 ≡ 2 ^ u = one_shl u 64 (omega arith) in
    let t = c.args.later.now in
    outcome_from _ c.args.table.now c.groups_watched.new.table c.args.count c.groups_watched.result c.requires.room
    (family_listing c.args.self.before.now c.args.self.after.now (plan_doors t) u c.args.gained c.args.lost c.watch.result c.args.self.few c.args.self.same
    c.requires.apart (omega arith) (omega arith) c.watch.ensures (1 * 2 ^ u % 2 ^ 64) (plan_rows t) e c.requires.later)
    c.groups_watched.ensures.answer c.groups_watched.ensures.table
