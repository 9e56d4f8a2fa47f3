use Rattle.std.proofs.Common.{◌≡◌, ◌++◌, map, take, drop}
use Rattle.groups.specs.Plans.{flip}
use Rattle.difference.proofs.gathering.turn.Given as goal

-- the groups so far are turned
abbrev pub invariant-loop-g : goal.invariant-loop-g
invariant-loop-g l = l.g-items ≡ map flip (take l.g-index l.fn.groups) ++ drop l.g-index l.fn.groups
