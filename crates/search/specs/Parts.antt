-- The groups of a plan with a property of their keys, and the forms in which the search reads a plan.
use Rattle.std.specs.Prelude.{ℕ, ◌-◌, ◌^◌, min, Bool, not, ◌&&◌, List, ◌++◌, map, length, take, drop, replicate, filter, ◌==◌, bit_and, slice_index}
use Rattle.std.specs.List.{range_with_len}
use Rattle.masks.specs.Masks.{is_within}
use Rattle.groups.specs.declared.group.Group.{Group}
use Rattle.groups.specs.Lists.{shared_doors, groups_of, columns}

-- ---- forms of a plan

-- the first 64 rows, and empty ones where there are fewer
unfoldable pub padded_rows : List ℕ → List ℕ
padded_rows rows = map (λ k. slice_index rows k) (range_with_len 0 64)

-- 64 rows with every bit
abbrev pub ones_rows : List ℕ
ones_rows = replicate 64 (2 ^ 64 - 1)

-- `into` with the columns of the plan of the first 64 rows in its first 64 places
unfoldable pub turned_into : List ℕ → List ℕ → List ℕ
turned_into rows into = columns (take 64 rows) (min (length into) 64) ++ drop 64 into

-- ---- parts of the list of groups

-- the groups that have all keys of `base`, and only keys of `wide`
unfoldable pub groups_between_of : List ℕ → ℕ → ℕ → ℕ → List Group
groups_between_of rows D base wide = filter (λ g. is_within base g.keys && is_within g.keys wide) (groups_of rows D)

-- the rows of the keys in the set x share a bit, where the rows are 64
abbrev pub share_a_bit : List ℕ → ℕ → Bool
share_a_bit rows x = not (shared_doors rows 64 x == 0)

-- the groups that have all keys of `base`, and for whose keys the rows of `watched` share a bit: a key with no row there shares none
unfoldable pub groups_watched_of : List ℕ → ℕ → ℕ → List ℕ → List Group
groups_watched_of rows D base watched = filter (λ g. is_within base g.keys && share_a_bit (padded_rows watched) g.keys) (groups_of rows D)

-- the groups that have all keys of x and none of `off`, and for whose keys the rows of `watched` share a bit
abbrev pub in_scope : List ℕ → ℕ → ℕ → Group → Bool
in_scope watched x off g = is_within x g.keys && (bit_and off g.keys == 0 && share_a_bit watched g.keys)

unfoldable pub scope_list : List ℕ → ℕ → List ℕ → ℕ → ℕ → List Group
scope_list rows D watched x off = filter (in_scope watched x off) (groups_of rows D)
