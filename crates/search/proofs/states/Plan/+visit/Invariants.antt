use Rattle.search.proofs.Loops.{Progress}
use Rattle.search.proofs.states.Plan.+visit.Given as goal

abbrev pub decreases-visit : goal.decreases-visit
decreases-visit l = l.node.left

abbrev pub invariant-loop-j : goal.invariant-loop-j
invariant-loop-j l =
    Progress l.self.rows.now l.self.doors l.self.watch.now l.node.keys l.node.out l.node.left l.initial.table l.initial.end l.rest.left l.table l.end
