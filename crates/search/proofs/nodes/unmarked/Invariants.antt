use Rattle.masks.specs.Masks.{Within}
use Rattle.search.specs.Nodes.{Unmarked}
use Rattle.search.proofs.nodes.unmarked.Given as goal

abbrev pub invariant-loop-k : goal.invariant-loop-k
invariant-loop-k l = Unmarked l.watch l.marks l.set l.bare × Within l.k-iterator.left l.set
