use Rattle.std.proofs.Common.{arith}
use Rattle.std.proofs.lemmas.List.{get_or_default}
use Rattle.std.proofs.lemmas.List.Edits.{map_over_more}
use Rattle.groups.specs.Plans.{flip}
use Rattle.difference.proofs.gathering.turn.Goals as goal

pub loop-g-preserved : goal.loop-g-preserved
loop-g-preserved c = map_over_more flip c.args.groups.now c.loop-g.g-items c.loop-g.g-index _ (omega arith) c.loop-g.invariant
    (get_or_default c.loop-g.g-items c.loop-g.g-index _ _ (omega arith))
