-- The rows that a list of pairs means.
use Rattle.std.specs.Prelude.{ℕ, min, Bool, true, ◌&&◌, List, [], ◌∷◌, map}
use Rattle.std.specs.List.{range_with_len}
use Rattle.pairs.specs.declared.pair.Pair.{Pair}
use Rattle.pairs.specs.Orders.{pair_before}
use Rattle.table.specs.Sets.{has}
use Rattle.groups.specs.Lists.{passing}
use Rattle.plans.specs.Meaning.{inside}

abbrev pub pair_of : ℕ → ℕ → Pair
pair_of k d = record { key = k; door = d }

-- the pair of key k and door d is in the list
abbrev pub listed : List Pair → ℕ → ℕ → Bool
listed ps k d = has pair_before (pair_of k d) ps

-- of each key the doors below the number of doors with which it is in the list
abbrev pub rows_of : ℕ → ℕ → List Pair → List ℕ
rows_of keys doors ps = map (λ k. passing (λ d. listed ps k d) doors) (range_with_len 0 keys)

-- the doors with which key k is in the list, and the keys with which door d is
unfoldable pub doors_in : ℕ → List Pair → ℕ
doors_in k ps = passing (λ d. listed ps k d) 64

unfoldable pub keys_in : ℕ → List Pair → ℕ
keys_in d ps = passing (λ k. listed ps k d) 64

-- each pair is of a key and a door of the plan
abbrev pub all_inside : ℕ → ℕ → List Pair → Bool
all_inside keys doors [] = true
all_inside keys doors (p ∷ ps) = inside keys doors p.key p.door && all_inside keys doors ps

-- memory for pairs counts for at most 4096
abbrev pub capacity : ℕ → ℕ
capacity n = min n 4096
