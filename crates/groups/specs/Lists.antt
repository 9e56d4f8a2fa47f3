-- The groups of a plan as a list, those that come up and lapse from one plan to the next, and a batch carried out.
use Rattle.std.specs.Prelude.{ℕ, zero, suc, ◌-◌, ◌^◌, Bool, true, false, cond, not, ◌&&◌, ◌||◌, List, [], ◌∷◌, map, length, filter, ◌==◌, slice_index, slice_set}
use Rattle.std.specs.List.{range_with_len}
use Rattle.masks.specs.Masks.{has_bit, is_within, joined, parted}
use Rattle.pairs.specs.declared.change.Change.{Change}
use Rattle.table.specs.Sets.{has}
use Rattle.groups.specs.declared.group.Group.{Group}
use Rattle.groups.specs.Orders.{group_before}

-- ---- sets by a test

-- the set of the numbers below n that pass a test
abbrev pub passing : (ℕ → Bool) → ℕ → ℕ
passing test zero = 0
passing test (suc n) = cond (test n) (joined (passing test n) n) (passing test n)

-- all numbers below n pass a test
abbrev pub all_below : (ℕ → Bool) → ℕ → Bool
all_below test zero = true
all_below test (suc n) = test n && all_below test n

-- ---- the groups of a plan, by rows and the number of doors

-- door d is opened by every key in the set x
abbrev pub opened_by_all : List ℕ → ℕ → ℕ → Bool
opened_by_all rows x d = all_below (λ k. not (has_bit x k) || has_bit (slice_index rows k) d) (length rows)

-- the doors that every key in the set x opens
abbrev pub shared_doors : List ℕ → ℕ → ℕ → ℕ
shared_doors rows D x = passing (opened_by_all rows x) D

-- the keys that open every door in the set y
abbrev pub shared_keys : List ℕ → ℕ → ℕ
shared_keys rows y = passing (λ k. is_within y (slice_index rows k)) (length rows)

-- x with the doors that all its keys open
abbrev pub with_doors : List ℕ → ℕ → ℕ → Group
with_doors rows D x = record { keys = x; doors = shared_doors rows D x }

-- there is a door that all keys open, and the keys that open all these doors are the keys at hand
abbrev pub makes_group : List ℕ → Group → Bool
makes_group rows g = not (g.doors == 0) && shared_keys rows g.doors == g.keys

-- the groups, ascending: of every set of keys, from 1 to 2 ^ K - 1, with the doors that all its keys open, those that make a group
unfoldable pub groups_of : List ℕ → ℕ → List Group
groups_of rows D = filter (makes_group rows) (map (with_doors rows D) (range_with_len 1 (2 ^ length rows - 1)))

-- the plan turned: for each door the keys that open it
unfoldable pub columns : List ℕ → ℕ → List ℕ
columns rows D = map (λ d. passing (λ k. has_bit (slice_index rows k) d) (length rows)) (range_with_len 0 D)

-- ---- from one plan to the next

-- the groups of a list that do not stand in the other
abbrev pub minus : List Group → List Group → List Group
minus [] hs = []
minus (g ∷ gs) hs = cond (has group_before g hs) (minus gs hs) (g ∷ minus gs hs)

-- the groups of the later plan that are not among those of the earlier
unfoldable pub new_groups_of : List ℕ → List ℕ → ℕ → List Group
new_groups_of before after D = minus (groups_of after D) (groups_of before D)

-- the groups of the earlier plan that are not among those of the later
unfoldable pub lapsed_groups_of : List ℕ → List ℕ → ℕ → List Group
lapsed_groups_of before after D = minus (groups_of before D) (groups_of after D)

-- ---- a batch carried out

-- the changes of a pair
abbrev pub addition : ℕ → ℕ → Change
addition k d = record { key = k; door = d; added = true }

abbrev pub removal : ℕ → ℕ → Change
removal k d = record { key = k; door = d; added = false }

-- the rows once a pair has left, and once it has joined: the row of its key changes, and none where there is no such key
abbrev pub withdrawn : Change → List ℕ → List ℕ
withdrawn c rows = slice_set rows c.key (parted (slice_index rows c.key) c.door)

abbrev pub permitted : Change → List ℕ → List ℕ
permitted c rows = slice_set rows c.key (joined (slice_index rows c.key) c.door)

-- the pairs that are marked as removals leave, and the others are passed over
abbrev pub removals_out : List Change → List ℕ → List ℕ
removals_out [] rows = rows
removals_out (c ∷ cs) rows = removals_out cs (cond c.added rows (withdrawn c rows))

-- the pairs that are marked as additions join, and the others are passed over
abbrev pub additions_in : List Change → List ℕ → List ℕ
additions_in [] rows = rows
additions_in (c ∷ cs) rows = additions_in cs (cond c.added (permitted c rows) rows)

-- the removals leave, then the additions join
unfoldable pub carried_out : List Change → List ℕ → List ℕ
carried_out cs rows = additions_in cs (removals_out cs rows)
