-- The round trip: what is read is the file of what was read, and each good batch and note come back from their file.
use Rattle.std.specs.Prelude.{◌≡◌, ℕ, ◌<◌, ◌≤◌, true, false, List, length, None, Ok, slice_index, slice_index_or}
use Rattle.pairs.specs.declared.change.Change.{Change}
use Rattle.pairs.specs.Orders.{before_by_pair}
use Rattle.table.specs.Rows.{Ascends}
use Rattle.batch.specs.Changes.{in_range}
use Rattle.weekly.specs.declared.reading.Reading.{Reading}
use Rattle.weekly.specs.Body.{first_bad_byte}
use Rattle.weekly.specs.Marks.{bytes_of}
use Rattle.weekly.specs.File.{plan_of, file_of, write_answer}
use Rattle.weekly.specs.Read.{place_of_note, read_answer, file_changes, file_note}

-- a batch as its type keeps it: at most 64 changes, ascending by pair, with numbers below 64
pub record GoodBatch (cs : List Change) : Type 0 where
  pub few : length cs ≤ 64
  pub ascend : Ascends before_by_pair cs (length cs)
  pub range : (k : ℕ) (d : Change) → k < length cs → in_range (slice_index_or cs k d) ≡ true

-- a note of at most 200 bytes, each 32 to 126
pub record GoodNote (ns : List ℕ) : Type 0 where
  pub short : length ns ≤ 200
  pub plain : first_bad_byte 0 ns ≡ None

-- bytes are below 256
abbrev pub Bytes : List ℕ → Type 0
Bytes f = (i : ℕ) → slice_index f i < 256

-- the file f is the file of what is read from it, which can be written
pub record Own (f : List ℕ) (r : Reading) : Type 0 where
  pub file : f ≡ file_of (file_changes f) (file_note f)
  pub batch : GoodBatch (file_changes f)
  pub note : GoodNote (file_note f)
  pub count : r.count ≡ length (file_changes f)
  pub writes : (room : ℕ) → length f ≤ room → write_answer (file_changes f) (file_note f) room ≡ Ok (length f)

abbrev pub ReadIsWritten : Type 0
ReadIsWritten = (f : List ℕ) (capacity : ℕ) (r : Reading) → Bytes f → read_answer f 0 capacity ≡ Ok r → Own f r

-- what reading answers of the file of a batch and a note
abbrev pub reading_back : List Change → List ℕ → Reading
reading_back cs ns = record { count = length cs; place = place_of_note (plan_of (length (bytes_of true cs)) (length ns) (length (bytes_of false cs))); length = length ns }

-- a draft with room takes the file of the batch and the note, and both come back
pub record Back (cs : List Change) (ns : List ℕ) : Type 0 where
  pub answer : (capacity : ℕ) → length cs ≤ capacity → read_answer (file_of cs ns) 0 capacity ≡ Ok (reading_back cs ns)
  pub changes : file_changes (file_of cs ns) ≡ cs
  pub note : file_note (file_of cs ns) ≡ ns

abbrev pub WrittenIsRead : Type 0
WrittenIsRead = (cs : List Change) (ns : List ℕ) → GoodBatch cs → GoodNote ns → Back cs ns
