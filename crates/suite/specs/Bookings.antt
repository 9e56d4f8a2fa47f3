-- What a booking leaves: its answer, the ledger of plan and register, and the two lists.
use Rattle.std.specs.Prelude.{◌≡◌, ℕ, List, length, None, Ok, Result}
use Rattle.faults.specs.declared.cause.Cause.{Cause}
use Rattle.pairs.specs.declared.change.Change.{Change}
use Rattle.pairs.specs.Orders.{before_by_pair}
use Rattle.table.specs.Rows.{Ascends}
use Rattle.groups.specs.declared.group.Group.{Group}
use Rattle.ledger.specs.Ledger.{Ledger, list_capacity, arising, lapsing, book_answer}
use Rattle.ledger.specs.Calls.{booked_if, over_if}
use Rattle.suite.specs.Steps.{plan_fault, lists_answer}

-- L and L' are the ledger before and after, new and new' the list for new groups, lapsed and lapsed' that for lapsed ones
pub record Booking (L L' : Ledger) (batch : List Change) (new new' lapsed lapsed' : List Group) (r : Result (ℕ × ℕ) Cause) : Type 0 where
  pub answer : r ≡ book_answer L batch (length new) (length lapsed)
  pub after : L' ≡ booked_if r L batch
  pub new_list : new' ≡ over_if r (arising L batch) new
  pub lapsed_list : lapsed' ≡ over_if r (lapsing L batch) lapsed

-- the plan takes the batch, and each pair stands in it at most once
pub record Ready (L : Ledger) (batch : List Change) : Type 0 where
  pub ascends : Ascends before_by_pair batch (length batch)
  pub fine : plan_fault L.keys L.doors L.rows L.places batch ≡ None

-- the two lists are what comes up and what lapses, and the caller's lists have room for them
pub record Fits (L : Ledger) (batch : List Change) (new_list lapsed_list : ℕ) (new lapsed : List Group) : Type 0 where
  pub coming : new ≡ arising L batch
  pub going : lapsed ≡ lapsing L batch
  pub counted : Ok (length new, length lapsed) ≡ lists_answer (list_capacity new_list) (list_capacity lapsed_list) (arising L batch) (lapsing L batch)
