-- What a group of a plan is, and what it is to list groups. A plan is given by its rows, one for each key, and by D, the number of its doors:
-- row k is the set of the doors that key k opens.
use Rattle.std.specs.Prelude.{◌≡◌, ℕ, ◌^◌, ◌<◌, true, List, length, slice_index, slice_index_or}
use Rattle.masks.specs.Masks.{Has}
use Rattle.groups.specs.declared.group.Group.{Group}
use Rattle.groups.specs.Orders.{group_before}

-- key k opens door d: a key past the last row opens none
abbrev pub Opens : List ℕ → ℕ → ℕ → Type 0
Opens rows k d = Has (slice_index rows k) d

-- g is a group of the plan
pub record IsGroup (rows : List ℕ) (D : ℕ) (g : Group) : Type 0 where
  -- its keys are keys of the plan, and its doors are doors of the plan
  pub keys_below : g.keys < 2 ^ length rows
  pub doors_below : g.doors < 2 ^ D
  -- it has a key, and it has a door
  pub some_key : 0 < g.keys
  pub some_door : 0 < g.doors
  -- each of its keys opens each of its doors
  pub shared : (k d : ℕ) → Has g.keys k → Has g.doors d → Opens rows k d
  -- no other door of the plan is opened by all its keys
  pub doors_all : (d : ℕ) → d < D → ((k : ℕ) → Has g.keys k → Opens rows k d) → Has g.doors d
  -- no other key of the plan opens all its doors
  pub keys_all : (k : ℕ) → k < length rows → ((d : ℕ) → Has g.doors d → Opens rows k d) → Has g.keys k

-- g is new from one plan to the next: a group of the later that is none of the earlier
abbrev pub New : List ℕ → List ℕ → ℕ → Group → Type 0
New before after D g = IsGroup after D g × (IsGroup before D g → ⊥)

-- g has lapsed from one plan to the next: a group of the earlier that is none of the later
abbrev pub Lapsed : List ℕ → List ℕ → ℕ → Group → Type 0
Lapsed before after D g = IsGroup before D g × (IsGroup after D g → ⊥)

-- what a read past the end of a list of groups gives
abbrev pub nothing : Group
nothing = record { keys = 0; doors = 0 }

-- one that stands earlier in the list is before one that stands later, so none stands twice
abbrev pub Ascending : List Group → Type 0
Ascending list = (i k : ℕ) → i < k → k < length list → group_before (slice_index_or list i nothing) (slice_index_or list k nothing) ≡ true

-- g stands in the list
abbrev pub Stands : List Group → Group → Type 0
Stands list g = (i : ℕ) × (i < length list) × (slice_index_or list i nothing ≡ g)

-- the list has exactly the groups with P, each once, ascending by keys and then by doors
pub record Listing (P : Group → Type 0) (list : List Group) : Type 0 where
  -- what is in the list has P
  pub sound : (i : ℕ) → i < length list → P (slice_index_or list i nothing)
  pub ascends : Ascending list
  -- what has P is in the list
  pub complete : (g : Group) → P g → Stands list g

-- the plan with keys and doors exchanged: `columns` has a row for each door of the plan, the set of the keys that open it
pub record Turned (rows columns : List ℕ) (D : ℕ) : Type 0 where
  pub long : length columns ≡ D
  pub to : (k d : ℕ) → k < length rows → d < D → Opens rows k d → Opens columns d k
  pub from : (k d : ℕ) → k < length rows → d < D → Opens columns d k → Opens rows k d

-- a group with keys and doors exchanged
abbrev pub flip : Group → Group
flip g = record { keys = g.doors; doors = g.keys }
