-- The changes of a draft or a batch, and what a put answers.
use Rattle.std.specs.Prelude.{ℕ, min, Bool, cond, ◌&&◌, List, ◌++◌, length, drop, Ok, Err, Result, nat_lt}
use Rattle.faults.specs.declared.cause.Cause.{Cause}
use Rattle.faults.specs.Causes.{bare, along}
use Rattle.numbers.specs.Numbers.{is_number}
use Rattle.pairs.specs.declared.change.Change.{Change}
use Rattle.pairs.specs.Orders.{before_by_pair}
use Rattle.table.specs.Sets.{has, rank}

-- both numbers of a change are 0 to 63
abbrev pub in_range : Change → Bool
in_range c = is_number c.key && is_number c.door

-- memory for changes counts for at most 64
abbrev pub capacity_of : List Change → ℕ
capacity_of memory = min (length memory) 64

-- a memory that holds the changes from its start, and is otherwise as it was
abbrev pub filled : List Change → List Change → List Change
filled cs memory = cs ++ drop (length cs) memory

-- a put into a draft that holds cs: its index where the pair stands under either mark, which is how many pairs are before it
abbrev pub put_answer : List Change → ℕ → Change → Result Unit Cause
put_answer cs capacity c =
    cond (in_range c)
    (cond (has before_by_pair c cs) (Err (along 10 (rank before_by_pair c cs)))
    (cond (nat_lt (length cs) capacity) (Ok tt) (Err (along 11 capacity))))
    (Err (bare 1))
