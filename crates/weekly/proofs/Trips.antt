-- The round trip.
use Rattle.std.proofs.Common.{◌≡◌, ℕ, zero, suc, ◌+◌, ◌<◌, ◌≤◌, Bool, true, false, cond, ltb, List, [], ◌∷◌, ◌++◌, length, get_or, Some, None, Ok, Err, Option, Result, sym, refl, ap, ◌∙◌, subst, arith}
use Rattle.faults.specs.declared.cause.Cause.{Cause}
use Rattle.faults.specs.Causes.{along}
use Rattle.pairs.specs.declared.change.Change.{Change}
use Rattle.pairs.specs.Orders.{before_by_pair}
use Rattle.table.proofs.Ups.{up_ascends}
use Rattle.batch.specs.Changes.{in_range}
use Rattle.weekly.specs.Places.{Places}
use Rattle.weekly.specs.declared.reading.Reading.{Reading}
use Rattle.weekly.specs.Head.{Sized}
use Rattle.weekly.specs.Body.{first_bad_byte, byte_fault, added_bytes, note_bytes, removed_bytes}
use Rattle.weekly.specs.Marks.{bytes_of, marked, merged}
use Rattle.weekly.specs.File.{plan_of, file_with, file_of}
use Rattle.weekly.specs.Read.{with_room, judged, change_count, place_of_note, reading_of, file_changes, file_note}
use Rattle.weekly.specs.Trip.{GoodBatch, GoodNote, Bytes, ReadIsWritten, WrittenIsRead}
use Rattle.weekly.proofs.Goods.{judged_ok}
use Rattle.weekly.proofs.Fresh.{Ranged, Batch, taken_batch, pairs_up}
use Rattle.weekly.proofs.Merges.{up_by_pair, up_change, merged_added, merged_removed, merged_back}
use Rattle.weekly.proofs.Answered.{read_empty, read_taken, part_length}
use Rattle.weekly.proofs.Takes.{changes_are, note_is, lengths_of, judged_takes}
use Rattle.weekly.proofs.Written.{write_done}
use Rattle.weekly.proofs.Rounds.{read_is_file}
use Rattle.weekly.proofs.Limits.{layout_kept, layout_sized}
use Rattle.weekly.proofs.Backs.{parts_back, sizes, even_bytes, none_bad}

abbrev answered : ℕ → ℕ → ℕ → Result Reading Cause
answered a b c = Ok (record { count = a; place = b; length = c })

-- ---- what is written is read
pub what_is_written_is_read : WrittenIsRead
what_is_written_is_read cs ns b n =
    let g : Places = plan_of (length (bytes_of true cs)) (length ns) (length (bytes_of false cs)) in
    let p = parts_back cs ns b n in
    let count : change_count g ≡ length cs = omega (arith, sizes cs, even_bytes true cs, even_bytes false cs) in
    record {
      answer = λ k m. sym (read_taken (file_of cs ns) 0 k (place_of_note g) g refl (sym p.is) (omega (arith, count, m)) refl) ∙ ap (λ (z : ℕ). answered z (place_of_note g) (length ns)) count;
      changes = changes_are (file_of cs ns) g p.is ∙ (ap (λ (z : List ℕ). merged z (removed_bytes (file_of cs ns) g)) p.added
          ∙ (ap (λ (z : List ℕ). merged (bytes_of true cs) z) p.removed ∙ merged_back cs (up_change cs (up_by_pair cs b.ascend))));
      note = note_is (file_of cs ns) g p.is ∙ p.text;
    }

-- ---- what is read is written
count_ok : (t : Bool) (k : ℕ) (g : Places) (r : Reading) → cond t (Err (along 11 k)) (Ok (reading_of g)) ≡ Ok r → r.count ≡ change_count g
count_ok true k g r e = cc
count_ok false k g r e = let q : reading_of g ≡ r = cc in ap (λ (v : Reading). v.count) (sym q)

room_ok : (k : ℕ) (x : Result Places Cause) (r : Reading) → with_room k x ≡ Ok r → (g : Places) × (x ≡ Ok g) × (r.count ≡ change_count g)
room_ok k (Err e) r q = cc
room_ok k (Ok g) r q = (g, refl, count_ok (ltb k (change_count g)) k g r q)

ranged_at : (cs : List Change) → Ranged cs → (k : ℕ) (d : Change) → k < length cs → in_range (get_or cs k d) ≡ true
ranged_at [] r k d h = absurd (omega arith)
ranged_at (c ∷ cs) r zero d h = r.0
ranged_at (c ∷ cs) r (suc k) d h = ranged_at cs r.1 k d (omega arith)

no_fault : (number : ℕ) (o : Option ℕ) → byte_fault number o ≡ Ok tt → o ≡ None
no_fault number None e = refl
no_fault number (Some p) e = cc

module _ (f : List ℕ) (g : Places) (bytes : Bytes f) (is : judged f ≡ Ok g) where
  sized : Sized (length f) g
  sized = layout_sized f g bytes (judged_ok f g is).0

  few : change_count g ≤ 64
  few = let k = layout_kept f g (judged_ok f g is).0 in let j = k.joint in let a = k.even_added in let r = k.even_removed in omega arith

  own_added : bytes_of true (file_changes f) ≡ added_bytes f g
  own_added = ap (bytes_of true) (changes_are f g is) ∙ merged_added (added_bytes f g) (removed_bytes f g) (up_change _ (pairs_up true 0 _ (added_bytes f g) (judged_ok f g is).1.adds)) (lengths_of f g sized).even_added

  own_removed : bytes_of false (file_changes f) ≡ removed_bytes f g
  own_removed = ap (bytes_of false) (changes_are f g is) ∙ merged_removed (added_bytes f g) (removed_bytes f g) (up_change _ (pairs_up false 0 _ (removed_bytes f g) (judged_ok f g is).1.takes)) (lengths_of f g sized).even_removed

  own_file : f ≡ file_of (file_changes f) (file_note f)
  own_file =
      read_is_file f g bytes (judged_ok f g is).0
      ∙ (ap (λ (z : List ℕ). file_with z (note_bytes f g) (removed_bytes f g)) (sym own_added)
      ∙ (ap (λ (z : List ℕ). file_with (bytes_of true (file_changes f)) z (removed_bytes f g)) (sym (note_is f g is))
      ∙ ap (λ (z : List ℕ). file_with (bytes_of true (file_changes f)) (file_note f) z) (sym own_removed)))

  batch_taken : Batch (merged (added_bytes f g) (removed_bytes f g)) 64
  unfolding merged
  batch_taken = taken_batch (marked true (added_bytes f g) ++ marked false (removed_bytes f g)) [] 64 (judged_takes f g 64 is sized few) (record { up = tt; ranged = tt; few = omega arith })

  own_batch : GoodBatch (file_changes f)
  own_batch =
      let b : Batch (file_changes f) 64 = subst (λ (z : List Change). Batch z 64) (sym (changes_are f g is)) batch_taken in
      record { few = b.few; ascend = up_ascends before_by_pair (file_changes f) b.up; range = ranged_at (file_changes f) b.ranged }

  own_note : GoodNote (file_note f)
  own_note =
      let n = note_is f g is in
      let l = ap length n ∙ part_length f (g.first + g.added) g.note (omega (arith, sized)) in
      let k = (layout_kept f g (judged_ok f g is).0).note in
      record { short = omega arith; plain = ap (first_bad_byte 0) n ∙ none_bad _ 0 (note_bytes f g) (no_fault 24 _ (judged_ok f g is).1.text) }

  own_count : change_count g ≡ length (file_changes f)
  own_count =
      let a = ap length own_added in let r = ap length own_removed in let l = lengths_of f g sized in let la = l.added in let lr = l.removed in
      let s = sizes (file_changes f) in let k = layout_kept f g (judged_ok f g is).0 in let p = k.even_added in let q = k.even_removed in omega arith

pub what_is_read_is_written : ReadIsWritten
what_is_read_is_written f capacity r bytes e =
    let p = room_ok capacity (judged f) r (sym (read_empty f 0 capacity (judged f) refl refl) ∙ e) in
    let g = p.0 in let is = p.1 in
    let note = own_note f g bytes is in
    record {
      file = own_file f g bytes is;
      batch = own_batch f g bytes is;
      note = note;
      count = p.2 ∙ own_count f g bytes is;
      writes = λ room h. write_done (file_changes f) (file_note f) room (length f) note.short (sym note.plain) h (ap length (sym (own_file f g bytes is)));
    }
