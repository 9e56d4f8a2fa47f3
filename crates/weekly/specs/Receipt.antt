-- What a receipt answers: as reading into a draft for 64 changes does, and then 28 where the file is longer than the output.
use Rattle.std.specs.Prelude.{ℕ, cond, List, length, Ok, Err, Result, nat_lt}
use Rattle.faults.specs.declared.cause.Cause.{Cause}
use Rattle.faults.specs.Causes.{bare}
use Rattle.weekly.specs.declared.reading.Reading.{Reading}
use Rattle.weekly.specs.Read.{read_answer}

abbrev pub with_output : List ℕ → ℕ → Result Reading Cause → Result Reading Cause
with_output f room (Ok r) = cond (nat_lt room (length f)) (Err (bare 28)) (Ok r)
with_output f room (Err e) = Err e

unfoldable pub receipt_answer : List ℕ → ℕ → Result Reading Cause
receipt_answer f room = with_output f room (read_answer f 0 64)
