-- The length of a file, and the answer of a write, case by case.
use Rattle.std.proofs.Common.{◌≡◌, ℕ, ◌+◌, ◌*◌, ◌<◌, ◌≤◌, true, false, cond, eqb, ltb, List, [], ◌++◌, length, Some, None, Ok, Err, Option, Result, sym, ap, ◌∙◌, subst, ⊎_elim, arith}
use Rattle.std.proofs.lemmas.List.{length-append}
use Rattle.std.proofs.lemmas.Bool.{cases_Bool, cond-true, cond-false, lt-ltb, le-ltb}
use Rattle.pairs.specs.declared.change.Change.{Change}
use Rattle.faults.specs.declared.cause.Cause.{Cause}
use Rattle.faults.specs.Causes.{bare, along}
use Rattle.weekly.specs.Places.{Places}
use Rattle.weekly.specs.Head.{bodies_end}
use Rattle.weekly.specs.Body.{and_then, first_bad_byte, byte_fault}
use Rattle.weekly.specs.Marks.{bytes_of}
use Rattle.weekly.specs.File.{entry_of, present, entry_count, plan_of, added_entry, note_entry, removed_entry, head_of, file_with, file_of, write_answer, Wrote}
use Rattle.weekly.proofs.Pastes.{wrote_more, wrote_length}

pub entry_length : (letter start len : ℕ) → length (entry_of letter start len) ≡ 5 * present len
entry_length letter start len = ⊎_elim
    (λ (t : eqb len 0 ≡ true). ap length (cond-true _ [] _ t) ∙ sym (ap (λ (z : ℕ). 5 * z) (cond-true _ 0 1 t)))
    (λ (t : eqb len 0 ≡ false). ap length (cond-false _ [] _ t) ∙ sym (ap (λ (z : ℕ). 5 * z) (cond-false _ 0 1 t)))
    (cases_Bool (eqb len 0))

pub head_length : (g : Places) → length (head_of g) ≡ 5 + 5 * entry_count g.added g.note g.removed
unfolding head_of
head_length g =
    omega (
      arith,
      length-append (added_entry g) (note_entry g ++ removed_entry g),
      length-append (note_entry g) (removed_entry g),
      entry_length 0x41 g.first g.added,
      entry_length 0x4E (g.first + g.added) g.note,
      entry_length 0x52 (g.first + g.added + g.note) g.removed,
    )

pub entries_length : (g : Places) → 5 + length (added_entry g) + length (note_entry g) + length (removed_entry g) ≡ 5 + 5 * entry_count g.added g.note g.removed
entries_length g =
    omega (arith, entry_length 0x41 g.first g.added, entry_length 0x4E (g.first + g.added) g.note, entry_length 0x52 (g.first + g.added + g.note) g.removed)

pub file_length : (xs ns rs : List ℕ) → length (file_with xs ns rs) ≡ bodies_end (plan_of (length xs) (length ns) (length rs))
unfolding file_with
file_length xs ns rs =
    let g = plan_of (length xs) (length ns) (length rs) in
    omega (arith, length-append (head_of g) (xs ++ (ns ++ rs)), length-append xs (ns ++ rs), length-append ns rs, head_length g)

pub file_wrote : (at : ℕ) (xs ns rs x0 x1 x2 : List ℕ) (m n : ℕ) → at + bodies_end (plan_of (length xs) (length ns) (length rs)) ≤ length x0
    → Wrote at (head_of (plan_of (length xs) (length ns) (length rs))) x0 x1 m → Wrote m (xs ++ (ns ++ rs)) x1 x2 n → Wrote at (file_with xs ns rs) x0 x2 n
unfolding file_with
file_wrote at xs ns rs x0 x1 x2 m n h a b =
    let g = plan_of (length xs) (length ns) (length rs) in
    wrote_more at (head_of g) (xs ++ (ns ++ rs)) x0 x1 x2 m n (omega (arith, h, length-append xs (ns ++ rs), length-append ns rs, head_length g)) a b

-- ---- the answer
pub write_long : (cs : List Change) (note : List ℕ) (room : ℕ) → 200 < length note → write_answer cs note room ≡ Err (along 27 200)
unfolding write_answer
write_long cs note room h = cond-true _ _ _ (lt-ltb 200 (length note) h)

write_noted : (cs : List Change) (note : List ℕ) (room : ℕ) (o : Option ℕ) → length note ≤ 200 → o ≡ first_bad_byte 0 note
    → write_answer cs note room ≡ and_then (byte_fault 27 o) (cond (ltb room (length (file_of cs note))) (Err (bare 28)) (Ok (length (file_of cs note))))
unfolding write_answer
write_noted cs note room o h e =
    cond-false _ _ _ (le-ltb 200 (length note) h) ∙ ap (λ (z : Option ℕ). and_then (byte_fault 27 z) (cond (ltb room (length (file_of cs note))) (Err (bare 28)) (Ok (length (file_of cs note))))) (sym e)

pub write_bad : (cs : List Change) (note : List ℕ) (room : ℕ) (p : ℕ) → length note ≤ 200 → Some p ≡ first_bad_byte 0 note → write_answer cs note room ≡ Err (along 27 p)
write_bad cs note room p h e = write_noted cs note room (Some p) h e

pub write_short : (cs : List Change) (note : List ℕ) (room : ℕ) → length note ≤ 200 → None ≡ first_bad_byte 0 note → room < length (file_of cs note) → write_answer cs note room ≡ Err (bare 28)
write_short cs note room h e l = write_noted cs note room None h e ∙ cond-true _ _ _ (lt-ltb room (length (file_of cs note)) l)

abbrev fine : ℕ → Result ℕ Cause
fine z = Ok z

pub write_done : (cs : List Change) (note : List ℕ) (room n : ℕ) → length note ≤ 200 → None ≡ first_bad_byte 0 note → n ≤ room → length (file_of cs note) ≡ n → write_answer cs note room ≡ Ok n
write_done cs note room n h e l q =
    write_noted cs note room None h e ∙ (cond-false _ _ _ (le-ltb room (length (file_of cs note)) (omega (arith, l, q))) ∙ ap (λ (z : ℕ). fine z) q)

-- ---- over a layout that is the plan
plan_room : (at : ℕ) (xs ns rs x0 x1 : List ℕ) (m : ℕ) → at + bodies_end (plan_of (length xs) (length ns) (length rs)) ≤ length x0
    → Wrote at (head_of (plan_of (length xs) (length ns) (length rs))) x0 x1 m → m + length xs + length ns + length rs ≤ length x1
plan_room at xs ns rs x0 x1 m h w =
    let g = plan_of (length xs) (length ns) (length rs) in
    omega (arith, h, w.after, head_length g, wrote_length at (head_of g) x0 x1 m (omega (arith, h, head_length g)) w)

module _ (at : ℕ) (xs ns rs x0 x1 : List ℕ) (m : ℕ) (g : Places) (is : g ≡ plan_of (length xs) (length ns) (length rs)) (room : at + bodies_end g ≤ length x0) (head : Wrote at (head_of g) x0 x1 m) where
  room' : at + bodies_end (plan_of (length xs) (length ns) (length rs)) ≤ length x0
  room' = subst (λ (v : Places). at + bodies_end v ≤ length x0) is room

  head' : Wrote at (head_of (plan_of (length xs) (length ns) (length rs))) x0 x1 m
  head' = subst (λ (v : Places). Wrote at (head_of v) x0 x1 m) is head

  pub bodies_room : m + length xs + length ns + length rs ≤ length x1
  bodies_room = plan_room at xs ns rs x0 x1 m room' head'

  pub bodies_wrote : (x2 : List ℕ) (n : ℕ) → Wrote m (xs ++ (ns ++ rs)) x1 x2 n → Wrote at (file_with xs ns rs) x0 x2 n
  bodies_wrote x2 n w = file_wrote at xs ns rs x0 x1 x2 m n room' head' w

pub file_end : (cs rows : List Change) (note : List ℕ) (g : Places) (a r : ℕ) → rows ≡ cs → a ≡ length (bytes_of true rows) → r ≡ length (bytes_of false rows) → g ≡ plan_of a (length note) r
    → length (file_of cs note) ≡ bodies_end g
file_end cs rows note g a r e p q is =
    let p' : length (bytes_of true cs) ≡ a = sym (p ∙ ap (λ (z : List Change). length (bytes_of true z)) e) in
    let q' : length (bytes_of false cs) ≡ r = sym (q ∙ ap (λ (z : List Change). length (bytes_of false z)) e) in
    file_length (bytes_of true cs) note (bytes_of false cs) ∙ (ap (λ (z : ℕ). bodies_end (plan_of z (length note) (length (bytes_of false cs)))) p'
    ∙ (ap (λ (z : ℕ). bodies_end (plan_of a (length note) z)) q' ∙ ap (λ (v : Places). bodies_end v) (sym is)))
