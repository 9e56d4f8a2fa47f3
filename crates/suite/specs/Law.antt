-- The law over any list of calls, told of what was there before and after.
use Rattle.std.specs.Prelude.{◌≡◌, ℕ, ◌+◌, true, List, length, Result}
use Rattle.faults.specs.declared.cause.Cause.{Cause}
use Rattle.pairs.specs.declared.change.Change.{Change}
use Rattle.groups.specs.declared.group.Group.{Group}
use Rattle.ledger.specs.Ledger.{Ledger, arising, lapsing}
use Rattle.ledger.specs.Calls.{Seen, batch_of, changes_answer, booked_if, over_if, after, replies}
use Rattle.ledger.specs.Copies.{copied, SoundCopy, booked_batches, all_carried_out, changed_groups}
use Rattle.ledger.specs.Laws.{InStep}

-- L and L' are the ledger of plan and register before and after, calls and calls' the calls before and after they were made
pub record Kept (L L' : Ledger) (calls calls' : List Seen) : Type 0 where
  -- plan, register and spare places are the ledger's, and so is what every call answered and left in its lists
  pub ledger_after : L' ≡ after L calls
  pub calls_after : calls' ≡ replies L calls
  -- the plan is the plan before with every booked batch carried out
  pub plan : L'.rows ≡ all_carried_out (booked_batches calls') L.rows
  -- where the register held the groups of the plan, all and no others, it does so now
  pub in_step : InStep L → InStep L'
  -- a copy of what was held, in which for each booking the lapsed were struck and then the new entered, is what is held now; it never struck
  -- a group that it lacked, nor entered one that it had
  pub copy : copied L.held calls' ≡ L'.held
  pub sound : SoundCopy L.held calls'
  -- in a spending register the places that are gone are the groups that stand in exactly one of the plans before and after, summed over the bookings
  pub spent : L.spends ≡ true → L.spare ≡ L'.spare + changed_groups L.rows L.doors (booked_batches calls')

-- what a booking of changes leaves: its answer, the ledger, and the two lists
pub record Booked (L L' : Ledger) (cs : List Change) (new new' lapsed lapsed' : List Group) (r : Result (ℕ × ℕ) Cause) : Type 0 where
  pub answer : r ≡ changes_answer L cs (length new) (length lapsed)
  pub after_it : L' ≡ booked_if r L (batch_of cs)
  pub new_list : new' ≡ over_if r (arising L (batch_of cs)) new
  pub lapsed_list : lapsed' ≡ over_if r (lapsing L (batch_of cs)) lapsed
