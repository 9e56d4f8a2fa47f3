-- The laws over any list of calls, refused ones among them.
use Rattle.std.specs.Prelude.{◌≡◌, ℕ, ◌+◌, true, List, ◌++◌, length, Err, ◌≢◌}
use Rattle.faults.specs.Causes.{bare}
use Rattle.pairs.specs.declared.change.Change.{Change}
use Rattle.table.specs.Rows.{Ascends}
use Rattle.groups.specs.declared.group.Group.{Group}
use Rattle.groups.specs.Orders.{group_before}
use Rattle.groups.specs.Lists.{groups_of}
use Rattle.ledger.specs.Ledger.{Ledger, founded, book_answer}
use Rattle.ledger.specs.Calls.{Seen, after, replies}
use Rattle.ledger.specs.Copies.{copied, SoundCopy, booked_batches, all_carried_out, changed_groups}

abbrev pub AscendingGroups : List Group → Type 0
AscendingGroups gs = Ascends group_before gs (length gs)

-- the register holds the groups of the plan, all of them and no others
abbrev pub InStep : Ledger → Type 0
InStep L = L.held ≡ groups_of L.rows L.doors

-- what holds of any ledger whose records ascend, and any calls
pub record Follows (L : Ledger) (calls : List Seen) : Type 0 where
  -- the plan is the plan at the start with every booked batch carried out
  pub plan : (after L calls).rows ≡ all_carried_out (booked_batches (replies L calls)) L.rows
  pub keys : (after L calls).keys ≡ L.keys
  pub doors : (after L calls).doors ≡ L.doors
  pub spends : (after L calls).spends ≡ L.spends
  -- a copy that began as what was held, and was kept by the lists alone, is what is held, and never struck what it lacked or entered what it had
  pub copy : copied L.held (replies L calls) ≡ (after L calls).held
  pub sound : SoundCopy L.held (replies L calls)
  -- in a spending register the places that are gone are the groups that stand in exactly one of the plans before and after each booking
  pub spent : L.spends ≡ true → L.spare ≡ (after L calls).spare + changed_groups L.rows L.doors (booked_batches (replies L calls))
  -- where the register holds the groups of the plan it goes on to do so
  pub step : InStep L → InStep (after L calls)

abbrev pub AlwaysFollows : Type 0
AlwaysFollows = (L : Ledger) (calls : List Seen) → AscendingGroups L.held → Follows L calls

-- two lists of calls one after the other are as their concatenation
pub record GoesOn : Type 0 where
  pub ledger : (L : Ledger) (a b : List Seen) → after (after L a) b ≡ after L (a ++ b)
  pub calls : (L : Ledger) (a b : List Seen) → replies L a ++ replies (after L a) b ≡ replies L (a ++ b)

-- a booking of a suite in step is never out of step
abbrev pub NeverOutOfStep : Type 0
NeverOutOfStep = (L : Ledger) → InStep L → (batch : List Change) (new_list lapsed_list : ℕ) → book_answer L batch new_list lapsed_list ≢ Err (bare 20)

-- a founded suite is in step
abbrev pub FoundedInStep : Type 0
FoundedInStep = (L : Ledger) → InStep (founded L)
