-- The numbers in a set, ascending.
use Rattle.std.specs.Prelude.{ℕ, List, filter}
use Rattle.std.specs.List.{range_with_len}
use Rattle.masks.specs.Masks.{has_bit}

-- each number below 64 that is in the set x, in the order of the numbers
unfoldable pub members_of : ℕ → List ℕ
members_of x = filter (has_bit x) (range_with_len 0 64)
