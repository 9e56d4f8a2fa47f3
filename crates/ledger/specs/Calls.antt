-- Calls as their caller sees them, before and after, and what the ledger makes of a list of them.
use Rattle.std.specs.Prelude.{ℕ, cond, List, [], ◌∷◌, length, is_ok, Some, None, Ok, Err, Option, Result}
use Rattle.faults.specs.declared.cause.Cause.{Cause}
use Rattle.pairs.specs.declared.change.Change.{Change}
use Rattle.pairs.specs.Orders.{change_before}
use Rattle.table.specs.Sets.{entered, sorted}
use Rattle.batch.specs.Changes.{put_answer}
use Rattle.groups.specs.declared.group.Group.{Group}
use Rattle.ledger.specs.declared.question.Question.{Question}
use Rattle.ledger.specs.declared.question.Answer.{Answer}
use Rattle.ledger.specs.Ledger.{Ledger, first_of, unless, arising, lapsing, book_answer, booked, over, ask_answer}

-- a call with what it is given, and its answer once there is one
pub data Seen : Type 0 where
  -- the changes, in any order, and the lists for new and for lapsed groups
  booking : List Change → List Group → List Group → Option (Result (ℕ × ℕ) Cause) → Seen
  asking : Question → Option (Result Answer Cause) → Seen

-- the cause of a refusal, if it is one
abbrev pub refusal : {A : Type 0} → Result A Cause → Option Cause
refusal (Ok a) = None
refusal (Err f) = Some f

-- why changes that are put one after the other into a draft of this capacity, which holds some already, are not all taken
abbrev pub puts_fault : ℕ → List Change → List Change → Option Cause
puts_fault capacity held [] = None
puts_fault capacity held (c ∷ cs) = first_of (refusal (put_answer held capacity c)) (puts_fault capacity (entered change_before c held) cs)

-- the batch that a draft of the changes closes to: the changes ascending
abbrev pub batch_of : List Change → List Change
batch_of cs = sorted change_before cs

-- to book changes: they are put into a draft of capacity 64, which is closed and booked
abbrev pub changes_answer : Ledger → List Change → ℕ → ℕ → Result (ℕ × ℕ) Cause
changes_answer L cs new_list lapsed_list = unless (puts_fault 64 [] cs) (book_answer L (batch_of cs) new_list lapsed_list)

-- what a booking that gave an answer leaves: of the ledger, and of a list that takes these groups
abbrev pub booked_if : Result (ℕ × ℕ) Cause → Ledger → List Change → Ledger
booked_if a L batch = cond (is_ok a) (booked L batch) L

abbrev pub over_if : Result (ℕ × ℕ) Cause → List Group → List Group → List Group
over_if a gs list = cond (is_ok a) (over gs list) list

-- the ledger after a call
abbrev pub next : Ledger → Seen → Ledger
next L (booking cs new lapsed a) = booked_if (changes_answer L cs (length new) (length lapsed)) L (batch_of cs)
next L (asking q a) = L

-- the call as it comes back
abbrev pub reply : Ledger → Seen → Seen
reply L (booking cs new lapsed a) =
    booking cs
    (over_if (changes_answer L cs (length new) (length lapsed)) (arising L (batch_of cs)) new)
    (over_if (changes_answer L cs (length new) (length lapsed)) (lapsing L (batch_of cs)) lapsed)
    (Some (changes_answer L cs (length new) (length lapsed)))
reply L (asking q a) = asking q (Some (ask_answer L q))

-- the ledger after a list of calls, and the calls as they come back
abbrev pub after : Ledger → List Seen → Ledger
after L [] = L
after L (c ∷ cs) = after (next L c) cs

abbrev pub replies : Ledger → List Seen → List Seen
replies L [] = []
replies L (c ∷ cs) = reply L c ∷ replies (next L c) cs
