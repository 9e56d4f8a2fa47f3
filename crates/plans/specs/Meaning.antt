-- What a plan means: how many keys and doors it has, and for each key the set of the doors that it opens; what its calls answer.
use Rattle.std.specs.Prelude.{◌≡◌, ℕ, ◌+◌, ◌^◌, ◌<◌, ◌≤◌, Bool, cond, not, ◌&&◌, List, [], ◌∷◌, length, Ok, Err, Result, ◌==◌, count_ones, nat_lt, slice_index}
use Rattle.faults.specs.declared.cause.Cause.{Cause}
use Rattle.faults.specs.Causes.{bare}
use Rattle.masks.specs.Masks.{has_bit}
use Rattle.groups.specs.Lists.{columns}

-- sizes of 1 to 64, a row for each key, and each row a set of doors of the plan
pub record Sound (keys doors : ℕ) (rows : List ℕ) : Type 0 where
  pub some_key : 1 ≤ keys
  pub few_keys : keys ≤ 64
  pub some_door : 1 ≤ doors
  pub few_doors : doors ≤ 64
  pub long : length rows ≡ keys
  pub below : (k : ℕ) → slice_index rows k < 2 ^ doors

-- the doors that key k opens: none for a key past the last
abbrev pub doors_opened : List ℕ → ℕ → ℕ
doors_opened rows k = slice_index rows k

-- the keys that open door d: none for a door past the last
abbrev pub keys_opening : List ℕ → ℕ → ℕ → ℕ
keys_opening rows doors d = slice_index (columns rows doors) d

-- how many pairs there are
abbrev pub pairs_in : List ℕ → ℕ
pairs_in [] = 0
pairs_in (r ∷ rs) = count_ones r + pairs_in rs

-- k is a key of the plan and d a door of it
abbrev pub inside : ℕ → ℕ → ℕ → ℕ → Bool
inside keys doors k d = nat_lt k keys && nat_lt d doors

-- key k opens door d
abbrev pub stands : List ℕ → ℕ → ℕ → Bool
stands rows k d = has_bit (slice_index rows k) d

-- to permit a pair: 3 outside the sizes, 4 where it stands, 5 where no place is spare
abbrev pub permit_answer : ℕ → ℕ → List ℕ → ℕ → ℕ → ℕ → Result Unit Cause
permit_answer keys doors rows spare k d =
    cond (not (inside keys doors k d)) (Err (bare 3))
    (cond (stands rows k d) (Err (bare 4))
    (cond (spare == 0) (Err (bare 5)) (Ok tt)))

-- to withdraw a pair: 3 outside the sizes, 6 where it does not stand
abbrev pub withdraw_answer : ℕ → ℕ → List ℕ → ℕ → ℕ → Result Unit Cause
withdraw_answer keys doors rows k d =
    cond (not (inside keys doors k d)) (Err (bare 3))
    (cond (stands rows k d) (Ok tt) (Err (bare 6)))
