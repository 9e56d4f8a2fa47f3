-- The only file for a batch and a note, and what writing it answers.
use Rattle.std.specs.Prelude.{◌≡◌, ℕ, ◌+◌, ◌*◌, ◌/◌, ◌%◌, true, false, cond, List, [], ◌∷◌, ◌++◌, length, take, drop, Ok, Err, Result, ◌==◌, nat_lt}
use Rattle.pairs.specs.declared.change.Change.{Change}
use Rattle.faults.specs.declared.cause.Cause.{Cause}
use Rattle.faults.specs.Causes.{bare, along}
use Rattle.weekly.specs.Places.{Places}
use Rattle.weekly.specs.Head.{opening_bytes}
use Rattle.weekly.specs.Body.{and_then, first_bad_byte, byte_fault}
use Rattle.weekly.specs.Marks.{bytes_of}

-- a contents entry: the letter, the start and the length, low byte first; an empty body has none
abbrev pub entry_of : ℕ → ℕ → ℕ → List ℕ
entry_of letter start len = cond (len == 0) [] (letter ∷ start % 256 ∷ start / 256 ∷ len % 256 ∷ len / 256 ∷ [])

-- the entries of a body of this length: none if it is empty
abbrev pub present : ℕ → ℕ
present len = cond (len == 0) 0 1

-- how many entries bodies of these lengths have
abbrev pub entry_count : ℕ → ℕ → ℕ → ℕ
entry_count a n r = present a + present n + present r

-- where bodies of these lengths lie
abbrev pub plan_of : ℕ → ℕ → ℕ → Places
plan_of a n r = record { first = 5 + 5 * entry_count a n r; added = a; note = n; removed = r }

-- the entries of additions, note and removals
abbrev pub added_entry : Places → List ℕ
added_entry g = entry_of 0x41 g.first g.added

abbrev pub note_entry : Places → List ℕ
note_entry g = entry_of 0x4E (g.first + g.added) g.note

abbrev pub removed_entry : Places → List ℕ
removed_entry g = entry_of 0x52 (g.first + g.added + g.note) g.removed

-- the opening, the number of entries and the entries
unfoldable pub head_of : Places → List ℕ
head_of g = opening_bytes ++ ((entry_count g.added g.note g.removed ∷ []) ++ (added_entry g ++ (note_entry g ++ removed_entry g)))

-- that, and the bodies
unfoldable pub file_with : List ℕ → List ℕ → List ℕ → List ℕ
file_with xs ns rs = head_of (plan_of (length xs) (length ns) (length rs)) ++ (xs ++ (ns ++ rs))

-- the file of a batch and a note
abbrev pub file_of : List Change → List ℕ → List ℕ
file_of cs note = file_with (bytes_of true cs) note (bytes_of false cs)

-- the answer for every batch, note and length of the output. 27: a note's byte past the 200th, or else its first bad byte;
-- 28: the file is longer than the output
unfoldable pub write_answer : List Change → List ℕ → ℕ → Result ℕ Cause
write_answer cs note room =
    cond (nat_lt 200 (length note)) (Err (along 27 200))
    (and_then (byte_fault 27 (first_bad_byte 0 note)) (cond (nat_lt room (length (file_of cs note))) (Err (bare 28)) (Ok (length (file_of cs note)))))

-- a list with bytes written over it from a place on
abbrev pub pasted : ℕ → List ℕ → List ℕ → List ℕ
pasted at bs xs = take at xs ++ (bs ++ drop (at + length bs) xs)

-- ys is xs with the bytes written from a place on, and next is the place after them
pub record Wrote (at : ℕ) (bs xs ys : List ℕ) (next : ℕ) : Type 0 where
  pub out : ys ≡ pasted at bs xs
  pub after : next ≡ at + length bs

-- an output with a file over its start, its rest as it was
abbrev pub over : List ℕ → List ℕ → List ℕ
over file xs = file ++ drop (length file) xs
