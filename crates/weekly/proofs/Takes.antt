-- What a file without a fault holds, and that a draft with room takes it.
use Rattle.std.proofs.Common.{◌≡◌, ℕ, ◌+◌, ◌%◌, ◌≤◌, true, false, List, [], ◌++◌, length, Ok, Err, Result, sym, ap, subst, arith}
use Rattle.faults.specs.declared.cause.Cause.{Cause}
use Rattle.weekly.specs.Places.{Places}
use Rattle.weekly.specs.Head.{Sized}
use Rattle.weekly.specs.Body.{added_bytes, note_bytes, removed_bytes}
use Rattle.weekly.specs.Marks.{marked, merged, TakenAll}
use Rattle.weekly.specs.Read.{judged, change_count, note_in, file_note, changes_in, file_changes}
use Rattle.weekly.proofs.Goods.{judged_ok}
use Rattle.weekly.proofs.Answered.{part_length}
use Rattle.weekly.proofs.Merges.{length_marked}
use Rattle.weekly.proofs.Fresh.{bodies_taken}

pub changes_are : (f : List ℕ) (g : Places) → judged f ≡ Ok g → file_changes f ≡ merged (added_bytes f g) (removed_bytes f g)
unfolding file_changes
changes_are f g e = ap (λ (r : Result Places Cause). changes_in f r) e

pub note_is : (f : List ℕ) (g : Places) → judged f ≡ Ok g → file_note f ≡ note_bytes f g
unfolding file_note
note_is f g e = ap (λ (r : Result Places Cause). note_in f r) e

pub note_none : (f : List ℕ) (x : Cause) → judged f ≡ Err x → file_note f ≡ []
unfolding file_note
note_none f x e = ap (λ (r : Result Places Cause). note_in f r) e

-- the lengths of the bodies are those of the layout
pub record Lengths (f : List ℕ) (g : Places) : Type 0 where
  pub added : length (added_bytes f g) ≡ g.added
  pub removed : length (removed_bytes f g) ≡ g.removed
  pub even_added : length (added_bytes f g) % 2 ≡ 0
  pub even_removed : length (removed_bytes f g) % 2 ≡ 0

pub lengths_of : (f : List ℕ) (g : Places) → Sized (length f) g → Lengths f g
lengths_of f g s =
    let a = part_length f g.first g.added (omega (arith, s)) in
    let r = part_length f (g.first + g.added + g.note) g.removed (omega (arith, s)) in
    record { added = a; removed = r; even_added = omega (arith, a, s); even_removed = omega (arith, r, s) }

pub count_lengths : (f : List ℕ) (g : Places) → Sized (length f) g → length (marked true (added_bytes f g)) + length (marked false (removed_bytes f g)) ≡ change_count g
count_lengths f g s =
    let l = lengths_of f g s in
    omega (arith, l.added, l.removed, length_marked true (added_bytes f g) l.even_added, length_marked false (removed_bytes f g) l.even_removed)

pub judged_takes : (f : List ℕ) (g : Places) (capacity : ℕ) → judged f ≡ Ok g → Sized (length f) g → change_count g ≤ capacity
    → TakenAll (marked true (added_bytes f g) ++ marked false (removed_bytes f g)) [] capacity
judged_takes f g capacity e s h =
    let good = (judged_ok f g e).1 in
    let m = count_lengths f g s in
    bodies_taken _ _ _ capacity (added_bytes f g) (removed_bytes f g) good.adds good.takes good.apart (omega arith)

-- the same of the parts as code has them
pub part_takes : (f : List ℕ) (g : Places) (xs rs : List ℕ) (capacity : ℕ) → judged f ≡ Ok g → Sized (length f) g → xs ≡ added_bytes f g → rs ≡ removed_bytes f g → change_count g ≤ capacity
    → TakenAll (marked true xs ++ marked false rs) [] capacity
part_takes f g xs rs capacity e s p q h =
    subst (λ (z : List ℕ). TakenAll (marked true z ++ marked false rs) [] capacity) (sym p)
    (subst (λ (z : List ℕ). TakenAll (marked true (added_bytes f g) ++ marked false z) [] capacity) (sym q) (judged_takes f g capacity e s h))
