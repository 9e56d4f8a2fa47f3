use Rattle.search.specs.Nodes.{Transposed}
use Rattle.search.proofs.forms.transposed.Given as goal

-- the columns of the first keys
abbrev pub invariant-loop-k : goal.invariant-loop-k
invariant-loop-k l = Transposed l.rows l.columns l.k l.doors
