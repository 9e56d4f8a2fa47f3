use Rattle.std.proofs.Common.{List, sym, ap, ◌∙◌, subst}
use Rattle.groups.specs.declared.group.Group.{Group}
use Rattle.groups.specs.Lists.{new_groups_of}
use Rattle.groups.proofs.Minus.{lapsed_new}
use Rattle.search.specs.Plans.{plan_doors, plan_rows}
use Rattle.difference.specs.Places.{Written}
use Rattle.difference.proofs.two.TwoPlans.lapsed_groups.Goals as goal

pub returns : goal.returns
returns c =
    let t = c.args.self.now in
    let bs = plan_rows t.before in
    let rs = plan_rows t.after in
    let W : List Group → Type 0 = λ l. Written l c.args.table.now c.write_new.new.table c.args.from c.args.limit c.write_new.result in
    subst W (ap (new_groups_of rs bs) t.doors ∙ sym (lapsed_new bs rs (plan_doors t.before))) c.write_new.ensures
