-- The answer of a read, case by case.
use Rattle.std.proofs.Common.{◌≡◌, ℕ, ◌+◌, ◌<◌, ◌≤◌, List, length, take, drop, Ok, Err, Result, sym, ap, ◌∙◌, rules}
use Rattle.std.proofs.lemmas.List.{places}
use Rattle.std.proofs.lemmas.Bool.{cond-true, cond-false, eq-eqb, ne_eqb, lt-ltb, le-ltb}
use Rattle.faults.specs.declared.cause.Cause.{Cause}
use Rattle.faults.specs.Causes.{bare, along}
use Rattle.weekly.specs.Places.{Places}
use Rattle.weekly.specs.declared.reading.Reading.{Reading}
use Rattle.weekly.specs.Read.{with_room, judged, change_count, place_of_note, read_answer}

pub read_not_empty : (f : List ℕ) (n k : ℕ) → (n ≡ 0 → ⊥) → read_answer f n k ≡ Err (bare 26)
unfolding read_answer
read_not_empty f n k h = cond-false _ _ _ (ne_eqb n 0 h)

pub read_empty : (f : List ℕ) (n k : ℕ) (r : Result Places Cause) → n ≡ 0 → r ≡ judged f → read_answer f n k ≡ with_room k r
unfolding read_answer
read_empty f n k r h e = cond-true _ _ _ (eq-eqb n 0 h) ∙ ap (λ (z : Result Places Cause). with_room k z) (sym e)

pub read_faulty : (f : List ℕ) (n k : ℕ) (x : Cause) → n ≡ 0 → Err x ≡ judged f → read_answer f n k ≡ Err x
read_faulty f n k x h e = read_empty f n k (Err x) h e

abbrev failed : ℕ → Result Reading Cause
failed z = Err (along 11 z)

abbrev done : Places → ℕ → Result Reading Cause
done g z = Ok (record { count = change_count g; place = z; length = g.note })

pub read_narrow : (f : List ℕ) (n k m : ℕ) (g : Places) → n ≡ 0 → Ok g ≡ judged f → k < change_count g → m ≡ k → Err (along 11 m) ≡ read_answer f n k
read_narrow f n k m g h e l q =
    let a : Err (along 11 m) ≡ with_room k (Ok g) = ap (λ (z : ℕ). failed z) q ∙ sym (cond-true _ _ _ (lt-ltb k (change_count g) l)) in a ∙ sym (read_empty f n k (Ok g) h e)

pub read_taken : (f : List ℕ) (n k m : ℕ) (g : Places) → n ≡ 0 → Ok g ≡ judged f → change_count g ≤ k → m ≡ place_of_note g → done g m ≡ read_answer f n k
read_taken f n k m g h e l q =
    let a : done g m ≡ with_room k (Ok g) = ap (λ (z : ℕ). done g z) q ∙ sym (cond-false _ _ _ (le-ltb k (change_count g) l)) in a ∙ sym (read_empty f n k (Ok g) h e)

pub part_length : (f : List ℕ) (a n : ℕ) → a + n ≤ length f → length (take n (drop a f)) ≡ n
part_length f a n h = search (rules, places)
