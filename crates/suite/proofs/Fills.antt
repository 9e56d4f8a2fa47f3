-- Changes put into a draft one after the other.
use Rattle.std.proofs.Common.{◌≡◌, ℕ, ◌+◌, ◌<◌, ◌≤◌, Bool, cond, List, [], ◌∷◌, length, get_or, drop, Ok, Option, Result, sym, ap, ◌∙◌, arith, length-append, length-drop}
use Rattle.std.proofs.lemmas.List.{at_drop_more}
use Rattle.std.proofs.lemmas.Bool.{cond_both}
use Rattle.std.proofs.lemmas.Bool.Decides.{nat_tests}
use Rattle.faults.specs.declared.cause.Cause.{Cause}
use Rattle.pairs.specs.declared.change.Change.{Change}
use Rattle.pairs.specs.Orders.{change_before}
use Rattle.table.specs.Sets.{entered, all_entered}
use Rattle.batch.specs.Changes.{capacity_of, filled, put_answer}
use Rattle.groups.specs.declared.group.Group.{Group}
use Rattle.ledger.specs.Ledger.{Ledger, first_of, unless, arising, lapsing, book_answer}
use Rattle.ledger.specs.Calls.{refusal, puts_fault, batch_of, booked_if, over_if}
use Rattle.suite.proofs.Turns.{blank, fine}

-- a list grows by at most one
grows : {X : Type 0} (lt : X → X → Bool) (x : X) (ys : List X) → length (entered lt x ys) ≤ length ys + 1
grows lt x [] = omega arith
grows lt x (y ∷ ys) =
    cond_both (lt x y) (x ∷ (y ∷ ys)) (cond (lt y x) (y ∷ entered lt x ys) (y ∷ ys)) (λ z. length z ≤ length (y ∷ ys) + 1) (λ e. omega arith)
    (λ e. cond_both (lt y x) (y ∷ entered lt x ys) (y ∷ ys) (λ z. length z ≤ length (y ∷ ys) + 1) (λ f. let r = grows lt x ys in omega arith) (λ f. omega arith))

-- room for a change that was taken
taken_room : (cs : List Change) (capacity : ℕ) (c : Change) → Ok tt ≡ put_answer cs capacity c → length cs < capacity
taken_room cs capacity c e = grind (arith, nat_tests)

keeps_length : (cs memory : List Change) → length cs ≤ length memory → length (filled cs memory) ≡ length memory
keeps_length cs memory h = simp (length-append, length-drop) (omega arith)

module _ (cs cs' memory memory' : List Change) (c : Change) (taken : Ok tt ≡ put_answer cs (capacity_of memory) c) (e : cs' ≡ entered change_before c cs) (m : memory' ≡ filled cs' memory) where
  pub same_capacity : capacity_of memory' ≡ capacity_of memory
  same_capacity =
      let r = taken_room cs (capacity_of memory) c taken in
      let g = grows change_before c cs in
      let l = ap length e in
      let k = keeps_length cs' memory (omega arith) in
      let q = ap length m in
      omega arith

-- one change on
module _ (capacity : ℕ) (list cs : List Change) (i : ℕ) (h : i < length list) where
  step : puts_fault capacity cs (drop i list) ≡ first_of (refusal (put_answer cs capacity (get_or list i blank))) (puts_fault capacity (entered change_before (get_or list i blank) cs) (drop (i + 1) list))
  step = at_drop_more (λ z. puts_fault capacity cs z) list i blank h

  pub puts_more : (cs' : List Change) (start : Option Cause) → fine ≡ put_answer cs capacity (get_or list i blank) → cs' ≡ entered change_before (get_or list i blank) cs
      → puts_fault capacity cs (drop i list) ≡ start → puts_fault capacity cs' (drop (i + 1) list) ≡ start
  puts_more cs' start a e inv =
      ap (λ z. puts_fault capacity z (drop (i + 1) list)) e
      ∙ ap (λ z. first_of (refusal z) (puts_fault capacity (entered change_before (get_or list i blank) cs) (drop (i + 1) list))) a ∙ sym step ∙ inv

  pub entered_more : (cs' all : List Change) → cs' ≡ entered change_before (get_or list i blank) cs → all_entered change_before (drop i list) cs ≡ all → all_entered change_before (drop (i + 1) list) cs' ≡ all
  entered_more cs' all e inv = ap (all_entered change_before (drop (i + 1) list)) e ∙ sym (at_drop_more (λ z. all_entered change_before z cs) list i blank h) ∙ inv

-- what is booked once the changes were put into a new draft, and the draft closed to the batch
module _ (L L' : Ledger) (list batch start : List Change) (capacity : ℕ) (new new' lapsed lapsed' : List Group) (r : Result (ℕ × ℕ) Cause)
    (none : start ≡ []) (sixty-four : capacity ≡ 64) (a : fine ≡ unless (puts_fault capacity start list) fine) (b : batch ≡ all_entered change_before list start)
    (answer : r ≡ book_answer L batch (length new) (length lapsed)) (after : L' ≡ booked_if r L batch)
    (n : new' ≡ over_if r (arising L batch) new) (l : lapsed' ≡ over_if r (lapsing L batch) lapsed) where
  is : batch ≡ batch_of list
  is = b ∙ ap (all_entered change_before list) none
