-- What reading a file answers.
use Rattle.std.specs.Prelude.{ℕ, ◌+◌, ◌/◌, cond, List, [], Ok, Err, Result, ◌==◌, nat_lt}
use Rattle.faults.specs.declared.cause.Cause.{Cause}
use Rattle.faults.specs.Causes.{bare, along}
use Rattle.weekly.specs.Places.{Places}
use Rattle.weekly.specs.declared.reading.Reading.{Reading}
use Rattle.pairs.specs.declared.change.Change.{Change}
use Rattle.weekly.specs.Marks.{merged}
use Rattle.weekly.specs.Head.{layout_of}
use Rattle.weekly.specs.Body.{and_then, bodies_fault, added_bytes, note_bytes, removed_bytes}

-- the causes that lie in the file alone: opening, contents and length, then the bodies
abbrev pub with_bodies : List ℕ → Result Places Cause → Result Places Cause
with_bodies f (Ok g) = and_then (bodies_fault g.first (added_bytes f g) (note_bytes f g) (removed_bytes f g)) (Ok g)
with_bodies f (Err e) = Err e

-- the layout of a file without a fault, or its first cause
unfoldable pub judged : List ℕ → Result Places Cause
judged f = with_bodies f (layout_of f)

-- how many changes a file holds
abbrev pub change_count : Places → ℕ
change_count g = g.added / 2 + g.removed / 2

-- where its note starts, 0 without one
abbrev pub place_of_note : Places → ℕ
place_of_note g = cond (g.note == 0) 0 (g.first + g.added)

-- what reading it answers
abbrev pub reading_of : Places → Reading
reading_of g = record { count = change_count g; place = place_of_note g; length = g.note }

-- 11: a draft whose capacity is below the count of changes
abbrev pub with_room : ℕ → Result Places Cause → Result Reading Cause
with_room capacity (Ok g) = cond (nat_lt capacity (change_count g)) (Err (along 11 capacity)) (Ok (reading_of g))
with_room capacity (Err e) = Err e

-- the answer for every file, every draft's count and capacity. 26: a draft that is not empty
unfoldable pub read_answer : List ℕ → ℕ → ℕ → Result Reading Cause
read_answer f count capacity = cond (count == 0) (with_room capacity (judged f)) (Err (bare 26))

-- the note: a part of the file, empty if the file is faulty or has none
abbrev pub note_in : List ℕ → Result Places Cause → List ℕ
note_in f (Ok g) = note_bytes f g
note_in f (Err e) = []

unfoldable pub file_note : List ℕ → List ℕ
file_note f = note_in f (judged f)

-- the changes of a file without a fault, ascending
abbrev pub changes_in : List ℕ → Result Places Cause → List Change
changes_in f (Ok g) = merged (added_bytes f g) (removed_bytes f g)
changes_in f (Err e) = []

unfoldable pub file_changes : List ℕ → List Change
file_changes f = changes_in f (judged f)
