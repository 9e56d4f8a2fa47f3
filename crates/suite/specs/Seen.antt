-- A call as the ledger sees it.
use Rattle.std.specs.Prelude.{Some, None, vec_items, Option, Result}
use Rattle.faults.specs.declared.cause.Cause.{Cause}
use Rattle.faults.specs.Causes.{told}
use Rattle.faults.specs.Faults.{booking_cause, number_cause}
use Rattle.ledger.specs.Calls.{Seen, booking, asking}
use Rattle.suite.specs.declared.calls.Call.{Call}
use Rattle.suite.specs.declared.calls.Call.TheVariants.{Book, Ask}

-- an answer once there is one, told by the table of causes
abbrev pub told_once : {A E : Type 0} → (E → Cause) → Option (Result A E) → Option (Result A Cause)
told_once cause None = None
told_once cause (Some r) = Some (told cause r)

abbrev pub seen : Call → Seen
seen (Book changes new lapsed answer) = booking (vec_items changes) (vec_items new) (vec_items lapsed) (told_once booking_cause answer)
seen (Ask question answer) = asking question (told_once number_cause answer)
