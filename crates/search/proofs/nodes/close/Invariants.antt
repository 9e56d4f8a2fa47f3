use Rattle.std.proofs.Common.{◌-◌, ◌^◌}
use Rattle.masks.specs.Masks.{Within}
use Rattle.search.specs.Nodes.{Shares, Gathers}
use Rattle.search.proofs.Shared.{Seen}
use Rattle.search.proofs.nodes.close.Given as goal

-- the members that are no more to come were looked at
abbrev pub invariant-loop-d : goal.invariant-loop-d
invariant-loop-d l =
    Shares l.columns (2 ^ 64 - 1) (Seen l.doors l.d-iterator.left) l.openers.all × Gathers l.columns (Seen l.doors l.d-iterator.left) l.openers.some
    × Within l.d-iterator.left l.doors
