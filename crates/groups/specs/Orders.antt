-- The order of groups.
use Rattle.std.specs.Prelude.{Bool, nat_lt}
use Rattle.pairs.specs.Orders.{then_by}
use Rattle.groups.specs.declared.group.Group.{Group}

-- by keys, then by doors
abbrev pub group_before : Group → Group → Bool
group_before a b = then_by a.keys b.keys (nat_lt a.doors b.doors)
