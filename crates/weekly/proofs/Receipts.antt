-- A file read, closed and written back.
use Rattle.std.proofs.Common.{◌≡◌, ℕ, ◌<◌, ◌≤◌, Bool, true, false, cond, ltb, List, [], length, Ok, Err, Result, sym, refl, ap, ◌∙◌, ⊎_elim, arith}
use Rattle.std.proofs.lemmas.Bool.{cases_lt, cond-true, cond-false, lt-ltb, le-ltb}
use Rattle.faults.specs.declared.cause.Cause.{Cause}
use Rattle.faults.specs.Causes.{bare}
use Rattle.pairs.specs.declared.change.Change.{Change}
use Rattle.batch.specs.Changes.{capacity_of}
use Rattle.weekly.specs.declared.reading.Reading.{Reading}
use Rattle.weekly.specs.File.{file_of, write_answer, over}
use Rattle.weekly.specs.Read.{read_answer, file_changes, file_note}
use Rattle.weekly.specs.Receipt.{with_output, receipt_answer}
use Rattle.weekly.specs.Trip.{Bytes, Own}
use Rattle.weekly.proofs.Trips.{what_is_read_is_written}
use Rattle.weekly.proofs.Written.{write_short, write_done}

abbrev refused : Cause → Result Reading Cause
refused x = Err x

abbrev taken : Reading → Result Reading Cause
taken r = Ok r

-- reading into an empty draft for 64 changes
pub read_whole : (f : List ℕ) (cs memory : List Change) (x : Result Reading Cause) → cs ≡ [] → length memory ≡ 64 → x ≡ read_answer f (length cs) (capacity_of memory) → x ≡ read_answer f 0 64
read_whole f cs memory x e l q =
    let k : capacity_of memory ≡ 64 = omega arith in
    q ∙ (ap (λ (n : ℕ). read_answer f n (capacity_of memory)) (ap length e) ∙ ap (λ (n : ℕ). read_answer f 0 n) k)

pub receipt_refused : (f : List ℕ) (room : ℕ) (x : Cause) → refused x ≡ read_answer f 0 64 → refused x ≡ receipt_answer f room
unfolding receipt_answer
receipt_refused f room x e = ap (λ (r : Result Reading Cause). with_output f room r) e

receipt_read : (f : List ℕ) (room : ℕ) (r : Reading) → taken r ≡ read_answer f 0 64 → receipt_answer f room ≡ cond (ltb room (length f)) (refused (bare 28)) (taken r)
unfolding receipt_answer
receipt_read f room r e = ap (λ (x : Result Reading Cause). with_output f room x) (sym e)

abbrev unwritten : Cause → Result ℕ Cause
unwritten x = Err x

abbrev written : ℕ → Result ℕ Cause
written n = Ok n

write_own : (f : List ℕ) (r : Reading) (room : ℕ) → Own f r → write_answer (file_changes f) (file_note f) room ≡ cond (ltb room (length f)) (unwritten (bare 28)) (written (length f))
write_own f r room own =
    let e = ap length own.file in
    ⊎_elim
    (λ (h : room < length f). write_short (file_changes f) (file_note f) room own.note.short (sym own.note.plain) (omega arith) ∙ sym (cond-true _ _ _ (lt-ltb room (length f) h)))
    (λ (h : length f ≤ room). write_done (file_changes f) (file_note f) room (length f) own.note.short (sym own.note.plain) h (sym e) ∙ sym (cond-false _ _ _ (le-ltb room (length f) h)))
    (cases_lt room (length f))

short_only : (b : Bool) (x : Cause) (n : ℕ) (r : Reading) → unwritten x ≡ cond b (unwritten (bare 28)) (written n) → refused x ≡ cond b (refused (bare 28)) (taken r)
short_only true x n r e = let q : x ≡ bare 28 = cc in ap refused q
short_only false x n r e = cc

long_enough : (b : Bool) (m n : ℕ) (r : Reading) → written m ≡ cond b (unwritten (bare 28)) (written n) → taken r ≡ cond b (refused (bare 28)) (taken r)
long_enough true m n r e = cc
long_enough false m n r e = refl

module _ (f : List ℕ) (room : ℕ) (r : Reading) (bytes : Bytes f) (read : taken r ≡ read_answer f 0 64) (cs : List Change) (note : List ℕ) (batch : cs ≡ file_changes f) (text : note ≡ file_note f) where
  own : Own f r
  own = what_is_read_is_written f 64 r bytes (sym read)

  written_own : write_answer cs note room ≡ cond (ltb room (length f)) (unwritten (bare 28)) (written (length f))
  written_own = ap (λ (z : List Change). write_answer z note room) batch ∙ (ap (λ (z : List ℕ). write_answer (file_changes f) z room) text ∙ write_own f r room own)

  pub receipt_short : (x : Cause) → unwritten x ≡ write_answer cs note room → refused x ≡ receipt_answer f room
  receipt_short x e = short_only (ltb room (length f)) x (length f) r (e ∙ written_own) ∙ sym (receipt_read f room r read)

  pub receipt_taken : (n : ℕ) → written n ≡ write_answer cs note room → taken r ≡ receipt_answer f room
  receipt_taken n e = long_enough (ltb room (length f)) n (length f) r (e ∙ written_own) ∙ sym (receipt_read f room r read)

  pub receipt_bytes : (xs ys : List ℕ) → ys ≡ over (file_of cs note) xs → ys ≡ over f xs
  receipt_bytes xs ys e =
      e ∙ ap (λ (z : List ℕ). over z xs) (ap (λ (z : List Change). file_of z note) batch ∙ (ap (λ (z : List ℕ). file_of (file_changes f) z) text ∙ sym own.file))
