-- What the steps of the search compute, and what holds of each of its states.
use Rattle.std.specs.Prelude.{◌≡◌, ℕ, ◌-◌, ◌^◌, ◌<◌, ◌⊎◌, List, length, bit_and, bit_or, slice_index}
use Rattle.masks.specs.Masks.{Has, Within, first_set}
use Rattle.groups.specs.Plans.{Opens}

-- the columns say which keys open the first D doors
pub record Reads (rows cols : List ℕ) (D : ℕ) : Type 0 where
  pub to : (k d : ℕ) → d < D → Opens rows k d → Opens cols d k
  pub from : (k d : ℕ) → d < D → Opens cols d k → Opens rows k d

-- the columns say which of the first K keys open the first D doors, and nothing else
pub record Transposed (rows cols : List ℕ) (K D : ℕ) : Type 0 where
  pub long : length cols ≡ 64
  pub to : (k d : ℕ) → k < K → d < D → Opens rows k d → Opens cols d k
  pub from : (k d : ℕ) → Opens cols d k → (k < K) × (d < D) × Opens rows k d

-- the columns with the key k in each of those that `row` has
pub record WithKey (cols : List ℕ) (row k : ℕ) (r : List ℕ) : Type 0 where
  pub long : length r ≡ length cols
  pub in_row : (d : ℕ) → Has row d → slice_index r d ≡ bit_or (slice_index cols d) (2 ^ k)
  pub others : (d : ℕ) → (Has row d → ⊥) → slice_index r d ≡ slice_index cols d

-- the rows with only the first D doors
pub record Cut (rows : List ℕ) (D : ℕ) (r : List ℕ) : Type 0 where
  pub long : length r ≡ 64
  pub cut : (k : ℕ) → k < 64 → slice_index r k ≡ bit_and (slice_index rows k) (first_set D)

-- r is what `begin` and the rows of the members share
pub record Shares (rows : List ℕ) (begin : ℕ) (Member : ℕ → Type 0) (r : ℕ) : Type 0 where
  pub before : (b : ℕ) → Has r b → Has begin b
  pub in_all : (b k : ℕ) → Has r b → Member k → Has (slice_index rows k) b
  pub all : (b : ℕ) → Has begin b → ((k : ℕ) → Member k → Has (slice_index rows k) b) → Has r b

-- r is what the rows of the members have together
pub record Gathers (rows : List ℕ) (Member : ℕ → Type 0) (r : ℕ) : Type 0 where
  pub from : (b : ℕ) → Has r b → (k : ℕ) × Member k × Has (slice_index rows k) b
  pub to : (b k : ℕ) → Member k → Has (slice_index rows k) b → Has r b

-- the keys that open all of the doors, and the keys that open some, by the columns
pub record Closes (cols : List ℕ) (n c s : ℕ) : Type 0 where
  pub whole : Shares cols (2 ^ 64 - 1) (Has n) c
  pub some : Gathers cols (Has n) s

-- r has members of the set whose rows have none of the marks
pub record Unmarked (watched : List ℕ) (m set r : ℕ) : Type 0 where
  pub part : (k : ℕ) → Has r k → Has set k
  pub bare : (k b : ℕ) → Has r k → Has m b → Has (slice_index watched k) b → ⊥

-- a state of the search: x has all keys that open all doors of n, and n all doors that the keys of x share
pub record IsNode (rows cols watched : List ℕ) (D x off n m free : ℕ) : Type 0 where
  pub long : length rows ≡ 64
  pub reads : Reads rows cols D
  pub few : D < 65
  pub some_door : 0 < n
  pub doors_below : (d : ℕ) → Has n d → d < D
  pub keys_below : (k : ℕ) → Has x k → k < 64
  pub shared : (k d : ℕ) → Has x k → Has n d → Opens rows k d
  pub doors_all : (d : ℕ) → d < D → ((k : ℕ) → Has x k → Opens rows k d) → Has n d
  pub keys_all : (k : ℕ) → k < 64 → Within n (slice_index rows k) → Has x k
  pub apart : (k : ℕ) → Has x k → Has off k → ⊥
  -- m is what the rows to watch share for the keys of x, and that is something
  pub marked : Shares watched (2 ^ 64 - 1) (Has x) m
  pub some_mark : 0 < m
  pub mark_fits : m < 2 ^ 64
  pub watch_long : length watched ≡ 64
  -- a key that is left is a key of the plan, not in x, and opens one of the doors
  pub free_below : (k : ℕ) → Has free k → k < 64
  pub free_apart : (k : ℕ) → Has free k → Has x k → ⊥
  pub free_opens : (k : ℕ) → Has free k → (d : ℕ) × Has n d × Opens rows k d
  -- every key is in x, may not join, is left, or opens none of the doors
  pub decided : (k : ℕ) → k < 64 → Has x k ⊎ (Has off k ⊎ (Has free k ⊎ ((d : ℕ) → Has n d → Opens rows k d → ⊥)))
