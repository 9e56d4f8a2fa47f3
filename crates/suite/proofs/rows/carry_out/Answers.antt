use Rattle.std.proofs.Common.{ap, ◌∙◌}
use Rattle.groups.specs.Lists.{carried_out, additions_in}
use Rattle.suite.proofs.rows.carry_out.Goals as goal

pub returns : goal.returns
unfolding carried_out
returns c = c.add_pairs.ensures ∙ ap (additions_in c.args.changes.now) c.remove_pairs.ensures
