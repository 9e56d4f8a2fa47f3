use Rattle.std.proofs.Common.{◌≡◌, ◌∙◌, ap, ap₂, length, arith, length-take, min}
use Rattle.groups.specs.Lists.{columns}
use Rattle.groups.proofs.Turns.{columns_turned}
use Rattle.search.specs.Plans.{plan_doors, plan_rows}
use Rattle.search.proofs.Doors.{columns_copied}
use Rattle.search.proofs.tables.transpose.Goals as goal

pub copy_from_slice-requires : goal.copy_from_slice-requires
copy_from_slice-requires c =
    omega (arith, length-take c.min-n.result c.args.columns.now, c.new.ensures.doors, ap length c.columns.ensures, (columns_turned (plan_rows c.new.result) (plan_doors c.new.result)).long)

pub returns : goal.returns
returns c =
    columns_copied c.args.rows.now c.args.columns.now _ c.min-n.result c.min-n.ensures
    (c.copy_from_slice.ensures.after ∙ c.columns.ensures
    ∙ ap₂ columns c.new.ensures.rows (c.new.ensures.doors ∙ (let e : min c.min-n.result 64 ≡ c.min-n.result = omega arith in e)))
