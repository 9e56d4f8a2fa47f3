-- The causes of refusals by their numbers, and answers told by them.
use Rattle.std.specs.Prelude.{ℕ, Some, None, Ok, Err, Result}
use Rattle.faults.specs.declared.cause.Cause.{Cause}

-- a cause with nothing returned with it
abbrev pub bare : ℕ → Cause
bare n = record { number = n; value = None }

-- a cause with the value that is returned with it: an index, a place, a length or a capacity
abbrev pub along : ℕ → ℕ → Cause
along n v = record { number = n; value = Some v }

-- an answer as the table of causes tells it: what was yielded, or the cause of the refusal
abbrev pub told : {A E : Type 0} → (E → Cause) → Result A E → Result A Cause
told cause (Ok a) = Ok a
told cause (Err e) = Err (cause e)

-- the same, and of what was yielded only what it means
abbrev pub told_as : {A B E : Type 0} → (A → B) → (E → Cause) → Result A E → Result B Cause
told_as means cause (Ok a) = Ok (means a)
told_as means cause (Err e) = Err (cause e)
