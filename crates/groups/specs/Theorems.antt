-- What holds of groups and of their lists.
use Rattle.std.specs.Prelude.{◌≡◌, ℕ, ◌<◌, not, ◌&&◌, ◌||◌, List, [], length, slice_index}
use Rattle.masks.specs.Masks.{has_bit}
use Rattle.pairs.specs.declared.change.Change.{Change}
use Rattle.pairs.specs.Orders.{change_before}
use Rattle.table.specs.Sets.{has}
use Rattle.groups.specs.declared.group.Group.{Group}
use Rattle.groups.specs.Lists.{groups_of, new_groups_of, lapsed_groups_of, columns, addition, removal, carried_out}
use Rattle.groups.specs.Plans.{IsGroup, New, Lapsed, Ascending, Stands, Listing, Turned, flip}

-- the list of a plan has exactly its groups, each once, ascending by keys and then by doors
abbrev pub ListsTheGroups : Type 0
ListsTheGroups = (rows : List ℕ) (D : ℕ) → Listing (IsGroup rows D) (groups_of rows D)

-- the lists of what is new and of what has lapsed have exactly that, each once, ascending
pub record ListsTheChanges : Type 0 where
  pub new : (before after : List ℕ) (D : ℕ) → Listing (New before after D) (new_groups_of before after D)
  pub lapsed : (before after : List ℕ) (D : ℕ) → Listing (Lapsed before after D) (lapsed_groups_of before after D)

-- there is one list only: whatever lists the same groups, ascending, is it
pub record OnlyOneList : Type 0 where
  pub same : (xs ys : List Group) → Ascending xs → Ascending ys → ((g : Group) → Stands xs g → Stands ys g) → ((g : Group) → Stands ys g → Stands xs g) → xs ≡ ys
  pub groups : (rows : List ℕ) (D : ℕ) (list : List Group) → Listing (IsGroup rows D) list → list ≡ groups_of rows D
  pub new : (before after : List ℕ) (D : ℕ) (list : List Group) → Listing (New before after D) list → list ≡ new_groups_of before after D
  pub lapsed : (before after : List ℕ) (D : ℕ) (list : List Group) → Listing (Lapsed before after D) list → list ≡ lapsed_groups_of before after D

-- either side of a group says which group of the plan it is
pub record OneSideDecides : Type 0 where
  pub keys : (rows : List ℕ) (D : ℕ) (g h : Group) → IsGroup rows D g → IsGroup rows D h → g.keys ≡ h.keys → g ≡ h
  pub doors : (rows : List ℕ) (D : ℕ) (g h : Group) → IsGroup rows D g → IsGroup rows D h → g.doors ≡ h.doors → g ≡ h

-- every plan can be turned, and the groups of the turned plan are the turned groups
pub record TurnedGroups : Type 0 where
  pub turns : (rows : List ℕ) (D : ℕ) → Turned rows (columns rows D) D
  pub to : (rows cols : List ℕ) (D : ℕ) (g : Group) → Turned rows cols D → IsGroup rows D g → IsGroup cols (length rows) (flip g)
  pub from : (rows cols : List ℕ) (D : ℕ) (g : Group) → Turned rows cols D → IsGroup cols (length rows) (flip g) → IsGroup rows D g

-- what lapses on the way there is what is new on the way back, and where nothing changes nothing is new or lapses
pub record ThereAndBack : Type 0 where
  pub back : (before after : List ℕ) (D : ℕ) → lapsed_groups_of before after D ≡ new_groups_of after before D
  pub none_new : (rows : List ℕ) (D : ℕ) → new_groups_of rows rows D ≡ []
  pub none_lapsed : (rows : List ℕ) (D : ℕ) → lapsed_groups_of rows rows D ≡ []

-- a batch carried out: as many keys as before, and a key of the plan opens a door where the batch adds the pair, or where it opened
-- the door before and the batch does not remove the pair
pub record CarriesOut : Type 0 where
  pub long : (cs : List Change) (rows : List ℕ) → length (carried_out cs rows) ≡ length rows
  pub opens : (cs : List Change) (rows : List ℕ) (k d : ℕ) → k < length rows
      → has_bit (slice_index (carried_out cs rows) k) d ≡ (has change_before (addition k d) cs || (has_bit (slice_index rows k) d && not (has change_before (removal k d) cs)))
