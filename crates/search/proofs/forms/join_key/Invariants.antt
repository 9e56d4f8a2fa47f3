use Rattle.search.proofs.Transposes.{KeyTo}
use Rattle.search.proofs.forms.join_key.Given as goal

abbrev pub invariant-loop-d : goal.invariant-loop-d
invariant-loop-d l = KeyTo l.initial.columns l.row l.k l.d-iterator.left l.columns
