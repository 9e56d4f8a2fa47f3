-- The order of groups is total, and goes by keys first.
use Rattle.std.proofs.Common.{◌≡◌, ◌<◌, true, false, arith}
use Rattle.std.proofs.lemmas.Bool.Decides.{nat_tests}
use Rattle.groups.specs.declared.group.Group.{Group}
use Rattle.groups.specs.Orders.{group_before}

pub irreflexive : (x : Group) → group_before x x ≡ false
irreflexive x = grind (arith, nat_tests)

pub transitive : (x y z : Group) → group_before x y ≡ true → group_before y z ≡ true → group_before x z ≡ true
transitive x y z h k = grind (arith, nat_tests)

keys_same : (x y : Group) → group_before x y ≡ false → group_before y x ≡ false → x.keys ≡ y.keys
keys_same x y h k = grind (arith, nat_tests)

doors_same : (x y : Group) → group_before x y ≡ false → group_before y x ≡ false → x.doors ≡ y.doors
doors_same x y h k = grind (arith, nat_tests)

pub total : (x y : Group) → group_before x y ≡ false → group_before y x ≡ false → x ≡ y
total x y h k = λ i. record { keys = keys_same x y h k i; doors = doors_same x y h k i }

-- fewer keys, as a number, are before
pub keys_first : (x y : Group) → x.keys < y.keys → group_before x y ≡ true
keys_first x y h = grind (arith, nat_tests)

-- and what is before has fewer keys, where the keys differ
pub before_keys : (x y : Group) → group_before x y ≡ true → (x.keys ≡ y.keys → ⊥) → x.keys < y.keys
before_keys x y h n = grind (arith, nat_tests)

-- two groups are the same where both sides are
pub same_group : (g h : Group) → g.keys ≡ h.keys → g.doors ≡ h.doors → g ≡ h
same_group g h p q = λ i. record { keys = p i; doors = q i }
