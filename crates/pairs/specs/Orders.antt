-- The orders of pairs and of changes.
use Rattle.std.specs.Prelude.{ℕ, Bool, not, ◌&&◌, ◌||◌, ◌==◌, nat_lt}
use Rattle.pairs.specs.declared.pair.Pair.{Pair}
use Rattle.pairs.specs.declared.change.Change.{Change}

-- by a number, and where that is the same, by what comes after it
abbrev pub then_by : ℕ → ℕ → Bool → Bool
then_by a b rest = nat_lt a b || (a == b && rest)

-- by key, then by door
abbrev pub pair_before : Pair → Pair → Bool
pair_before a b = then_by a.key b.key (nat_lt a.door b.door)

-- by key, then by door, then a removal before an addition
abbrev pub change_before : Change → Change → Bool
change_before a b = then_by a.key b.key (then_by a.door b.door (not a.added && b.added))

-- the order of two changes' pairs, whatever their marks
abbrev pub before_by_pair : Change → Change → Bool
before_by_pair a b = then_by a.key b.key (nat_lt a.door b.door)
