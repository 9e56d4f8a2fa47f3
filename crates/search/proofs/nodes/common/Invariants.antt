use Rattle.masks.specs.Masks.{Within}
use Rattle.search.specs.Nodes.{Shares}
use Rattle.search.proofs.Shared.{Seen}
use Rattle.search.proofs.nodes.common.Given as goal

-- the members that are no more to come were looked at
abbrev pub invariant-loop-k : goal.invariant-loop-k
invariant-loop-k l = Shares l.rows l.start (Seen l.set l.k-iterator.left) l.shared × Within l.k-iterator.left l.set
