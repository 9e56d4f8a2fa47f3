-- What makes a group of the later plan new: a key or a door that touches it.
use Rattle.std.specs.Prelude.{◌≡◌, ℕ, ◌<◌, ◌≤◌, min, ◌⊎◌, List, length, bit_and, bit_or, slice_index}
use Rattle.masks.specs.Masks.{Has}
use Rattle.groups.specs.declared.group.Group.{Group}
use Rattle.groups.specs.Plans.{Opens, IsGroup, New, Turned}

-- the key u touches g: it is a key of g, and some door of the plan is one of g that u did not open before, or one that all keys of g opened
-- before and u opens no more
pub record KeyTouches (before after : List ℕ) (D u : ℕ) (g : Group) : Type 0 where
  pub key : Has g.keys u
  pub door : ℕ
  pub door_in : door < D
  pub how : (Has g.doors door × (Opens before u door → ⊥)) ⊎ (((k : ℕ) → Has g.keys k → Opens before k door) × (Opens after u door → ⊥))

-- the door v touches g: it is a door of g, and some key of the plan opened all doors of g before and opens v no more
pub record DoorTouches (before after : List ℕ) (v : ℕ) (g : Group) : Type 0 where
  pub door : Has g.doors v
  pub key : ℕ
  pub key_in : key < length after
  pub opened : (d : ℕ) → Has g.doors d → Opens before key d
  pub lost : Opens after key v → ⊥

-- some key below u touches g
abbrev pub ByKey : List ℕ → List ℕ → ℕ → ℕ → Group → Type 0
ByKey before after D u g = (k : ℕ) × (k < u) × KeyTouches before after D k g

-- some door below v touches g
abbrev pub ByDoor : List ℕ → List ℕ → ℕ → Group → Type 0
ByDoor before after v g = (d : ℕ) × (d < v) × DoorTouches before after d g

-- some key below u or some door below v touches g
abbrev pub Touched : List ℕ → List ℕ → ℕ → ℕ → ℕ → Group → Type 0
Touched before after D u v g = ByKey before after D u g ⊎ ByDoor before after v g

-- a group of the later plan that is touched so
abbrev pub Sofar : List ℕ → List ℕ → ℕ → ℕ → ℕ → Group → Type 0
Sofar before after D u v g = IsGroup after D g × Touched before after D u v g

-- a group of the later plan is new exactly where some key or some door of the plan touches it
abbrev pub TouchedAreNew : Type 0
TouchedAreNew =
    (before after : List ℕ) (D : ℕ) (g : Group) → length before ≡ length after
    → (New before after D g → Sofar before after D (length after) D g) × (Sofar before after D (length after) D g → New before after D g)

-- r has the numbers below n that a has and b lacks
pub record OnlyIn (a b n r : ℕ) : Type 0 where
  pub inside : (i : ℕ) → Has r i → i < n
  pub has : (i : ℕ) → Has r i → Has a i
  pub lacks : (i : ℕ) → Has r i → Has b i → ⊥
  pub all : (i : ℕ) → i < n → Has a i → (Has b i → ⊥) → Has r i

-- r has the numbers below n that all rows of the set have
pub record Shared (rows : List ℕ) (n set r : ℕ) : Type 0 where
  pub inside : (d : ℕ) → Has r d → d < n
  pub each : (k d : ℕ) → k < length rows → Has set k → Has r d → Opens rows k d
  pub all : (d : ℕ) → d < n → ((k : ℕ) → k < length rows → Has set k → Opens rows k d) → Has r d

-- a group of the later plan that has the key u, and a number of `gained` that all its keys have after, or one of `lost` that all have before
pub record Meets (before after : List ℕ) (D u gained lost : ℕ) (g : Group) : Type 0 where
  pub group : IsGroup after D g
  pub key : Has g.keys u
  pub number : ℕ
  pub how : (Has gained number × ((k : ℕ) → Has g.keys k → Opens after k number)) ⊎ (Has lost number × ((k : ℕ) → Has g.keys k → Opens before k number))

-- some number is in a and not in b
abbrev pub Lacks : ℕ → ℕ → Type 0
Lacks a b = (i : ℕ) × Has a i × (Has b i → ⊥)

-- the door v touches g, by the columns of both plans, of K keys
pub record ColumnTouches (before after : List ℕ) (K v : ℕ) (g : Group) : Type 0 where
  pub door : Has g.doors v
  pub key : ℕ
  pub key_in : key < K
  pub opened : (d : ℕ) → Has g.doors d → Opens before d key
  pub lost : Opens after v key → ⊥

-- some door below v touches g, by the columns
abbrev pub ByColumn : List ℕ → List ℕ → ℕ → ℕ → Group → Type 0
ByColumn before after K v g = (d : ℕ) × (d < v) × ColumnTouches before after K d g

-- the first m watch rows have of each key what its row has of `gained` after and of `lost` before
abbrev pub Watches : List ℕ → List ℕ → ℕ → ℕ → List ℕ → ℕ → Type 0
Watches before after gained lost watch m = (k : ℕ) → k < m → slice_index watch k ≡ bit_or (bit_and (slice_index after k) gained) (bit_and (slice_index before k) lost)

-- how many keys two plans are compared at: those that both have, at most 64
abbrev pub shared_count : List ℕ → List ℕ → ℕ
shared_count before after = min (min (length before) (length after)) 64

-- two plans of the same keys and doors, at most 64 of each, by their rows and by their columns
pub record Compared (before before_columns after after_columns : List ℕ) : Type 0 where
  pub few : length before ≤ 64
  pub same : length after ≡ length before
  pub doors : length before_columns ≤ 64
  pub before_turned : Turned before before_columns (length before_columns)
  pub after_turned : Turned after after_columns (length before_columns)

-- the set has each of the first m rows that had one of the numbers below n before and has it no more
abbrev pub Losing : List ℕ → List ℕ → ℕ → ℕ → ℕ → Type 0
Losing before after n m set = (k d : ℕ) → k < m → d < n → Opens before k d → (Opens after k d → ⊥) → Has set k

-- the keys have each key that lost or gained a door, and the doors each that lost a key
pub record Marked (before before_columns after after_columns : List ℕ) (keys doors : ℕ) : Type 0 where
  pub lost : Losing before after (length before_columns) (length before) keys
  pub gained : Losing after before (length before_columns) (length before) keys
  pub doors_lost : Losing before_columns after_columns (length before) (length before_columns) doors
