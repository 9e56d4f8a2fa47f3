-- Somebody who keeps a copy of the register by the lists of the bookings alone, and what the bookings did. All this looks only at the calls as
-- they came back.
use Rattle.std.specs.Prelude.{◌≡◌, ℕ, ◌+◌, true, false, List, [], ◌∷◌, length, take, Some, None, Ok, Err, Option, Result}
use Rattle.faults.specs.declared.cause.Cause.{Cause}
use Rattle.pairs.specs.declared.change.Change.{Change}
use Rattle.table.specs.Sets.{has, entered, struck, all_entered, all_struck}
use Rattle.groups.specs.declared.group.Group.{Group}
use Rattle.groups.specs.Orders.{group_before}
use Rattle.groups.specs.Lists.{groups_of, minus, carried_out}
use Rattle.ledger.specs.Calls.{Seen, booking, asking, batch_of}

-- the two counts of an answer: none where there is no answer, or a refusal
abbrev pub counts : Option (Result (ℕ × ℕ) Cause) → ℕ × ℕ
counts None = (0, 0)
counts (Some (Err f)) = (0, 0)
counts (Some (Ok p)) = p

-- the new and the lapsed groups that a call hands out
abbrev pub told_new : Seen → List Group
told_new (booking cs new lapsed a) = take (counts a).0 new
told_new (asking q a) = []

abbrev pub told_lapsed : Seen → List Group
told_lapsed (booking cs new lapsed a) = take (counts a).1 lapsed
told_lapsed (asking q a) = []

-- the copy after a call: the lapsed are struck, then the new are entered
abbrev pub copy : List Group → Seen → List Group
copy held c = all_entered group_before (told_new c) (all_struck group_before (told_lapsed c) held)

-- and after a list of calls
abbrev pub copied : List Group → List Seen → List Group
copied held [] = held
copied held (c ∷ cs) = copied (copy held c) cs

-- each group is there when its turn to be struck comes, and none is there when its turn to be entered comes
abbrev pub AllThere : List Group → List Group → Type 0
AllThere held [] = Unit {0}
AllThere held (g ∷ gs) = (has group_before g held ≡ true) × AllThere (struck group_before g held) gs

abbrev pub NoneThere : List Group → List Group → Type 0
NoneThere held [] = Unit {0}
NoneThere held (g ∷ gs) = (has group_before g held ≡ false) × NoneThere (entered group_before g held) gs

-- the copy never strikes a group that it lacks, nor enters one that it has
abbrev pub SoundCopy : List Group → List Seen → Type 0
SoundCopy held [] = Unit {0}
SoundCopy held (c ∷ cs) = AllThere held (told_lapsed c) × NoneThere (all_struck group_before (told_lapsed c) held) (told_new c) × SoundCopy (copy held c) cs

-- ---- the batches that were booked, and what they did

-- the batch first, where it was booked
abbrev pub if_booked : Option (Result (ℕ × ℕ) Cause) → List Change → List (List Change) → List (List Change)
if_booked None batch bs = bs
if_booked (Some (Err f)) batch bs = bs
if_booked (Some (Ok p)) batch bs = batch ∷ bs

abbrev pub booked_batches : List Seen → List (List Change)
booked_batches [] = []
booked_batches (booking cs new lapsed a ∷ ss) = if_booked a (batch_of cs) (booked_batches ss)
booked_batches (asking q a ∷ ss) = booked_batches ss

-- the rows of a plan with every batch carried out
abbrev pub all_carried_out : List (List Change) → List ℕ → List ℕ
all_carried_out [] rows = rows
all_carried_out (b ∷ bs) rows = all_carried_out bs (carried_out b rows)

-- how many groups stand in exactly one of two plans
abbrev pub in_one_only : List ℕ → List ℕ → ℕ → ℕ
in_one_only before after D = length (minus (groups_of after D) (groups_of before D)) + length (minus (groups_of before D) (groups_of after D))

-- that number for the plans before and after each batch, summed
abbrev pub changed_groups : List ℕ → ℕ → List (List Change) → ℕ
changed_groups rows D [] = 0
changed_groups rows D (b ∷ bs) = in_one_only rows (carried_out b rows) D + changed_groups (carried_out b rows) D bs
