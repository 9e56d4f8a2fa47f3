-- Plans with their groups, and batches with the groups that they bring and end.
use Rattle.std.specs.Prelude.{◌≡◌, List, [], ◌∷◌, ℕ, length}
use Rattle.pairs.specs.declared.change.Change.{Change}
use Rattle.groups.specs.declared.group.Group.{Group}
use Rattle.groups.specs.Lists.{groups_of, new_groups_of, lapsed_groups_of, addition, removal, carried_out}

-- a group, by its keys and its doors
abbrev pub g : ℕ → ℕ → Group
g x y = record { keys = x; doors = y }

-- from a plan of D doors, the batch brings these new groups, and ends those
pub record Brings (rows : List ℕ) (D : ℕ) (batch : List Change) (new lapsed : List Group) : Type 0 where
  pub comes : new_groups_of rows (carried_out batch rows) D ≡ new
  pub goes : lapsed_groups_of rows (carried_out batch rows) D ≡ lapsed

-- ---- three keys and three doors, with the pairs (0,0) (0,1) (1,1) (2,2); then (1,0) is added, then (2,1), and then (0,0) is removed

abbrev pub three : List ℕ
three = carried_out (addition 0 0 ∷ addition 0 1 ∷ addition 1 1 ∷ addition 2 2 ∷ []) (0 ∷ 0 ∷ 0 ∷ [])

abbrev pub second : List Change
second = addition 1 0 ∷ []

abbrev pub third : List Change
third = addition 2 1 ∷ []

abbrev pub fourth : List Change
fourth = removal 0 0 ∷ []

-- ---- one key and one door: the pair is added, then removed

abbrev pub joins : List Change
joins = addition 0 0 ∷ []

abbrev pub leaves : List Change
leaves = removal 0 0 ∷ []

-- ---- two keys and two doors, with the pairs (0,0) (0,1)

abbrev pub two : List ℕ
two = carried_out (addition 0 0 ∷ addition 0 1 ∷ []) (0 ∷ 0 ∷ [])

pub record Examples : Type 0 where
  pub three_rows : three ≡ 3 ∷ 2 ∷ 4 ∷ []
  pub three_groups : groups_of three 3 ≡ g 1 3 ∷ g 3 2 ∷ g 4 4 ∷ []
  pub second_brings : Brings three 3 second (g 3 3 ∷ []) (g 1 3 ∷ g 3 2 ∷ [])
  pub third_brings : Brings (carried_out second three) 3 third (g 4 6 ∷ g 7 2 ∷ []) (g 4 4 ∷ [])
  pub fourth_brings : Brings (carried_out third (carried_out second three)) 3 fourth (g 2 3 ∷ []) (g 3 3 ∷ [])
  pub fourth_rows : carried_out fourth (carried_out third (carried_out second three)) ≡ 2 ∷ 3 ∷ 6 ∷ []
  pub joins_brings : Brings (0 ∷ []) 1 joins (g 1 1 ∷ []) []
  pub leaves_brings : Brings (carried_out joins (0 ∷ [])) 1 leaves [] (g 1 1 ∷ [])
  pub two_rows : two ≡ 3 ∷ 0 ∷ []
  pub both_ways : Brings two 2 (removal 0 0 ∷ addition 1 1 ∷ []) (g 3 2 ∷ []) (g 1 3 ∷ [])
  pub both_added : Brings two 2 (addition 1 0 ∷ addition 1 1 ∷ []) (g 3 3 ∷ []) (g 1 3 ∷ [])
  -- four keys and four doors, where each key opens every door but that of its own number
  pub all_but_own : groups_of (14 ∷ 13 ∷ 11 ∷ 7 ∷ []) 4 ≡ g 1 14 ∷ g 2 13 ∷ g 3 12 ∷ g 4 11 ∷ g 5 10 ∷ g 6 9 ∷ g 7 8 ∷ g 8 7 ∷ g 9 6 ∷ g 10 5 ∷ g 11 4 ∷ g 12 3 ∷ g 13 2 ∷ g 14 1 ∷ []
  pub all_but_own_count : length (groups_of (14 ∷ 13 ∷ 11 ∷ 7 ∷ []) 4) ≡ 14
