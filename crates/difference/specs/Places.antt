-- Groups in the places of a table.
use Rattle.std.specs.Prelude.{◌≡◌, ℕ, ◌+◌, ◌-◌, ◌/◌, ◌<◌, ◌≤◌, min, cond, ◌⊎◌, List, ◌++◌, length, take, drop, Some, None, Option, MatchOption, ◌≢◌, nat_le, slice_index_or}
use Rattle.std.specs.List.{between}
use Rattle.std.specs.List.Sorted.{IsPermutation, IsNonDecreasingBy}
use Rattle.groups.specs.declared.group.Group.{Group}
use Rattle.groups.specs.Plans.{Listing, nothing, flip}

-- how many groups can be written from `from` on: at most `limit`, and at most half of the places there are, since the rest is work space
abbrev pub room_for : List Group → ℕ → ℕ → ℕ
room_for T from limit = min limit ((length T - from) / 2)

-- what a call leaves that writes a list to a table from `from` on: where the list ends, or None where there is no room for it
-- the places before `from` are kept, and where there is room the list stands from `from` on
pub record Written (list T T' : List Group) (from limit : ℕ) (r : Option ℕ) : Type 0 where
  pub answer : r ≡ cond (nat_le (length list) (room_for T from limit)) (Some (from + length list)) None
  pub kept : take from T' ≡ take from T
  pub written : length list ≤ room_for T from limit → take (length list) (drop from T') ≡ list

abbrev pub at : List Group → ℕ → Group
at T i = slice_index_or T i nothing

abbrev pub Same : List Group → List Group → ℕ → Type 0
Same T T' from = (i : ℕ) → i < from → at T' i ≡ at T i

-- the places from..end of the table have exactly the groups with P, each once, in any order
pub record Held (P : Group → Type 0) (T : List Group) (from end : ℕ) : Type 0 where
  pub low : from ≤ end
  pub high : end ≤ length T
  pub sound : (i : ℕ) → from ≤ i → i < end → P (at T i)
  pub apart : (i k : ℕ) → from ≤ i → i < k → k < end → at T i ≢ at T k
  pub complete : (g : Group) → P g → (i : ℕ) × (from ≤ i) × (i < end) × (at T i ≡ g)

-- the places from..end of the table have groups with P, each once
pub record Drawn (P : Group → Type 0) (T : List Group) (from end : ℕ) : Type 0 where
  pub low : from ≤ end
  pub high : end ≤ length T
  pub sound : (i : ℕ) → from ≤ i → i < end → P (at T i)
  pub apart : (i k : ℕ) → from ≤ i → i < k → k < end → at T i ≢ at T k

-- what stood in count..fresh without E stands now in count..c
pub record Sieved (E : Group → Type 0) (T T' : List Group) (count fresh c : ℕ) : Type 0 where
  pub low : count ≤ c
  pub high : c ≤ fresh
  pub kept : (i : ℕ) → i < count → at T' i ≡ at T i
  pub source : (i : ℕ) → count ≤ i → i < c → (j : ℕ) × (count ≤ j) × (j < fresh) × (at T' i ≡ at T j) × (E (at T' i) → ⊥)
  pub apart : (i k : ℕ) → count ≤ i → i < k → k < c → at T' i ≢ at T' k
  pub found : (j : ℕ) → count ≤ j → j < fresh → E (at T j) ⊎ ((i : ℕ) × (count ≤ i) × (i < c) × (at T' i ≡ at T j))

-- what stood in from..to is turned
pub record Turning (T T' : List Group) (from to : ℕ) : Type 0 where
  pub kept : (i : ℕ) → i < from → at T' i ≡ at T i
  pub turned : (i : ℕ) → from ≤ i → i < to → at T' i ≡ flip (at T i)

-- there are more than `limit` groups with P
pub record Many (P : Group → Type 0) (limit : ℕ) : Type 0 where
  pub list : List Group
  pub more : limit < length list
  pub sound : (i : ℕ) → i < length list → P (at list i)
  pub apart : (i k : ℕ) → i < k → k < length list → at list i ≢ at list k

-- a step: the groups with Q are held from `from` on, at most `limit`; or there are more than `limit` with N
abbrev pub Step : (Group → Type 0) → (Group → Type 0) → List Group → List Group → ℕ → ℕ → Option ℕ → Type 0
Step N Q T T' from limit r = Same T T' from × MatchOption r (Many N limit) (λ c. Held Q T' from c × (c ≤ from + limit))

-- what a search leaves: the listing of the groups with P behind `count`, or None where it does not fit
pub record Outcome (P : Group → Type 0) (T T' : List Group) (count : ℕ) (r : Option ℕ) : Type 0 where
  pub list : List Group
  pub lists : Listing P list
  pub result : MatchOption r ((length T < count + length list) × (take count T' ≡ take count T)) (λ c. (c ≡ count + length list) × (c ≤ length T) × (T' ≡ take count T ++ (list ++ drop c T)))

-- the places from..end are put into order by their keys
pub record Ordered (T T' : List Group) (from end : ℕ) : Type 0 where
  pub kept : (i : ℕ) → i < from → at T' i ≡ at T i
  pub shuffled : IsPermutation (between from end T) (between from end T')
  pub rises : IsNonDecreasingBy (λ g. g.keys) (between from end T')

-- the listing of the groups with P stands from `from` on, at most `limit` of them; or there are more
pub record Listed (P : Group → Type 0) (T T' : List Group) (from limit : ℕ) (r : Option ℕ) : Type 0 where
  pub kept : (i : ℕ) → i < from → at T' i ≡ at T i
  pub result : MatchOption r (Many P limit) (λ c. (from ≤ c) × (c ≤ length T') × (c ≤ from + limit) × Listing P (between from c T'))
